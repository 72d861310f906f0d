use Rattle.inline_refs.proofs.Notes.{open-long, open-short, open-cut, open-from}
use Rattle.inline_refs.proofs.start.open_body.Goals as goal

pub returns-then-body-gt-MOST_DATA : goal.returns-then-body-gt-MOST_DATA
returns-then-body-gt-MOST_DATA c = open-long _ _ c.if-body-gt-MOST_DATA.true

pub returns-then-body-lt-BODY_HEAD : goal.returns-then-body-lt-BODY_HEAD
returns-then-body-lt-BODY_HEAD c = open-short _ _ c.if-body-gt-MOST_DATA.false c.if-body-lt-BODY_HEAD.true

pub returns-then-body-start : goal.returns-then-body-start
returns-then-body-start c = open-cut _ _ c.if-body-gt-MOST_DATA.false c.if-body-lt-BODY_HEAD.false _ c.refs_start-start.ensures c.if-body-start.true

pub returns : goal.returns
returns c = open-from _ _ c.if-body-gt-MOST_DATA.false c.if-body-lt-BODY_HEAD.false _ c.refs_start-start.ensures c.if-body-start.false
