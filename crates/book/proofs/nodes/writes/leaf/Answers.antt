use Rattle.std.proofs.lemmas.Result.{MatchResult-weaker}
use Rattle.book.proofs.Stores.{leaf_made, no_more}
use Rattle.book.proofs.nodes.writes.leaf.Goals as goal

pub returns : goal.returns
returns c = record {
  case = MatchResult-weaker c.put_record.result c.put_record.ensures
      (λ b a. leaf_made c.args.text c.args.start c.args.len c.requires.ready c.requires.some c.requires.ends a) (λ _ e. no_more e);
}
