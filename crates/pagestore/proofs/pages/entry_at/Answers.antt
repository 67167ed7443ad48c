use Rattle.std.proofs.Common.{List, ℕ, get_or, sym, ap, ◌∙◌, rules}
use Rattle.pagestore_page.specs.Layout.{inner_of, no_entry}
use Rattle.pagestore_page.specs.declared.Inner.{Inner}
use Rattle.pagestore_page.proofs.ReadLaws.{entry_none}
use Rattle.pagestore.specs.Store.StretchLaws.{inner_opens}
use Rattle.pagestore.proofs.pages.entry_at.Goals as goal

pub returns-in-Some : goal.returns-in-Some
returns-in-Some c = c.read_entry.ensures ∙ ap (λ (s : List ℕ). get_or (inner_of s).entries c.args.i no_entry) c.in-Some.ensures.0 ∙ ap (λ (x : Inner). get_or x.entries c.args.i no_entry) (sym (inner_opens _ _))

pub returns-in-None : goal.returns-in-None
returns-in-None c = c.no_entry.ensures ∙ entry_none c.args.i (search rules) ∙ sym (ap (λ (x : Inner). get_or x.entries c.args.i no_entry) (inner_opens _ _ ∙ ap inner_of c.in-None.ensures))
