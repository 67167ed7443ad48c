use Rattle.index_query.specs.Asking.{question_of}
use Rattle.index_trusted.proofs.AskLaws.{query_sought, answered_by}
use Rattle.index_trusted.proofs.answered.Goals as goal

pub search-seen-requires : goal.search-seen-requires
search-seen-requires c = let S = c in query_sought (question_of S.args.point.now S.args.weights.now S.args.what) _ _ _ c.query_of.ensures S.requires.0 S.requires.1

pub returns : goal.returns
returns c = let S = c in
    answered_by S.args.index.now (question_of S.args.point.now S.args.weights.now S.args.what) _ _ _ _ c.query_of.ensures c.search-seen.ensures
