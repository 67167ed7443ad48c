use Rattle.std.proofs.Common.{◌≡◌, ap, ◌∙◌, min, arith}
use Rattle.pagestore_page.specs.declared.Entry.{Entry}
use Rattle.pagestore.specs.Store.{inner_at}
use Rattle.pagestore.specs.Store.PageLaws.{inner_counts, entries_slots}
use Rattle.tree_core.proofs.EntryLaws.{child_in, child_out}
use Rattle.tree_core.proofs.entries.child_of.Goals as goal

pub returns-then-i-filled_at : goal.returns-then-i-filled_at
returns-then-i-filled_at c = let a = c.args in
    let F = c.filled_at in
    let M = inner_at a.index.now a.page in
    let n : F.result ≡ min 16 M.count = omega (arith, F.ensures, inner_counts a.index.now a.page) in
    ap (λ (e : Entry). e.child) c.entry_at.ensures ∙ child_in M.entries F.result M.count a.i n c.if-i-filled_at.true

pub returns-else-i-filled_at : goal.returns-else-i-filled_at
returns-else-i-filled_at c = let a = c.args in
    let F = c.filled_at in
    let M = inner_at a.index.now a.page in
    let n : F.result ≡ min 16 M.count = omega (arith, F.ensures, inner_counts a.index.now a.page) in
    child_out M.entries F.result M.count a.i (entries_slots a.index.now a.page) n c.if-i-filled_at.false
