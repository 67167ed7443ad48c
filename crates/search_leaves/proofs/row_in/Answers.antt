use Rattle.search_leaves.proofs.row_in.Goals as goal

pub returns : goal.returns
returns c =
    let a = c.args in
    λ j. record { distance = a.distance; id = c.read_ident.ensures j; stamp = c.read_stamp.ensures j; position = c.from.ensures j }
