use lib.ListN.{length}
use Rattle.extent_refs.specs.Posts.{change_of}
use Rattle.extent_refs.proofs.Answers.{coded}
use Rattle.extent_refs.proofs.Postings.{answered-in}
use Rattle.extent_refs.proofs.ledger_calls.ledger_post.Goals as goal

pub returns : goal.returns
returns c =
    coded (answered-in c.args.nodesize c.args.sheet.now (change_of c.args.change c.args.extent c.args.a c.args.b c.args.c c.args.amount) (length c.args.out.now) c.change_of-posting.ensures c.post-answer.ensures) c.put_edited.ensures
