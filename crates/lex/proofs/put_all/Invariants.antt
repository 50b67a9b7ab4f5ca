-- `put_all` meets its contract. The invariant is `Writing`, which a token keeps. Assumes nothing.
use Rattle.lex.specs.Lexing.{lent}
use Rattle.lex.specs.Left.{left}
use Rattle.lex.proofs.Writing.{Writing}
use Rattle.lex.proofs.put_all.Given as goal

abbrev pub invariant-loop-t : goal.invariant-loop-t
invariant-loop-t l =
    record {
      ready : (goal.iterator-loop-t).can_next l.t-iterator;
      ends : (goal.iterator-loop-t).is_finite l.t-iterator;
      written : Writing (lent l.fn.all.rest.now l.initial.kinds l.initial.joints l.initial.tokens) l.kinds l.joints l.tokens (left l.t-iterator) l.n.tokens l.n.kinds l.waiting;
    }
