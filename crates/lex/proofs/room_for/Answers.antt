-- `room_for` meets its contract. Assumes nothing.
use Rattle.lex.specs.Lexing.{lent}
use Rattle.lex.proofs.Placed.{roomy, few-all}
use Rattle.lex.proofs.room_for.Goals as goal

pub returns-then-hold-clause-ok : goal.returns-then-hold-clause-ok
returns-then-hold-clause-ok c = roomy (lent c.args.all.rest.now c.args.kinds.now c.args.joints.now c.args.tokens.now) c.hold.ensures c.if-hold.true

pub hold-requires-2 : goal.hold-requires-2
hold-requires-2 c = few-all (lent c.args.all.rest.now c.args.kinds.now c.args.joints.now c.args.tokens.now) c.args.all.few c.count-n.ensures.0 c.count-n.ensures.1
