-- `count` meets its contract. The invariant is `Counting`, which a token keeps. Assumes nothing.
use Rattle.lex.specs.Left.{left}
use Rattle.lex.proofs.Writing.{Counting}
use Rattle.lex.proofs.count.Given as goal

abbrev pub invariant-loop-t : goal.invariant-loop-t
invariant-loop-t l = record { ready : (goal.iterator-loop-t).can_next l.t-iterator; ends : (goal.iterator-loop-t).is_finite l.t-iterator; counted : Counting (left l.fn.all) (left l.t-iterator) l.n.tokens l.n.kinds }
