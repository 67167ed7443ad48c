use Rattle.std.proofs.Common.{List, ℕ, get_or, sym, ap, ◌∙◌, rules}
use Rattle.pagestore_page.specs.Layout.{leaf_of, no_record}
use Rattle.pagestore_page.specs.declared.Leaf.{Leaf}
use Rattle.pagestore_page.proofs.ReadLaws.{ident_none}
use Rattle.pagestore.specs.Store.StretchLaws.{leaf_opens}
use Rattle.pagestore.proofs.pages.ident_at.Goals as goal

pub returns-in-Some : goal.returns-in-Some
returns-in-Some c = c.read_ident.ensures ∙ ap (λ (s : List ℕ). (get_or (leaf_of s).records c.args.i no_record).id) c.in-Some.ensures.0 ∙ ap (λ (x : Leaf). (get_or x.records c.args.i no_record).id) (sym (leaf_opens _ _))

pub returns-in-None : goal.returns-in-None
returns-in-None c = ident_none c.args.i (search rules) ∙ sym (ap (λ (x : Leaf). (get_or x.records c.args.i no_record).id) (leaf_opens _ _ ∙ ap leaf_of c.in-None.ensures))
