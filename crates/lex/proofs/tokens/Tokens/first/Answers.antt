use mathlib.Core.Path.{sym, ◌∙◌}
use native.Mathlib.Omega.{arith}
use Rattle.lexical.proofs.Looked.{start-state, dead-state}
use Rattle.lex.proofs.Scan.{scan-start, scan-none, scan-on, scan-found, scan-end, scan-last, scan-unclosed, coded-same}
use Rattle.lex.proofs.tokens.Tokens.first.Goals as goal

pub loop-i-init : goal.loop-i-init
loop-i-init c = record { passed = omega arith; row = start-state; found = dead-state; scanned = scan-start _ }

pub returns-then-self-i-clause-is : goal.returns-then-self-i-clause-is
returns-then-self-i-clause-is c =
    scan-unclosed c.loop-i.invariant.scanned c.args.self.now.bytes c.if-row-eq-BODY.true c.args.self.now.no_close c.if-self-i.true
    ∙ sym (coded-same c.ended.ensures.0 c.ended.ensures.1)

pub returns-then-row-eq0-clause-is : goal.returns-then-row-eq0-clause-is
returns-then-row-eq0-clause-is c =
    scan-none c.loop-i-test.true (omega arith) c.step-row.ensures c.step-row.result.state c.loop-i.invariant.scanned c.if-row-eq0.true
    ∙ sym (coded-same c.ended-then-row-eq0.ensures.0 c.ended-then-row-eq0.ensures.1)

pub returns-clause-is : goal.returns-clause-is
returns-clause-is c = scan-end c.loop-i.invariant.scanned c.loop-i-test.false ∙ sym (coded-same c.ended-2.ensures.0 c.ended-2.ensures.1)

pub returns-then-row-ge-LAST-clause-is : goal.returns-then-row-ge-LAST-clause-is
returns-then-row-ge-LAST-clause-is c =
    scan-last (scan-found c.loop-i-test.true (c.args.self.now.bytes c.loop-i.i) c.step-row.ensures c.step-row.result.state c.loop-i.invariant.scanned c.if-row-lt-LIVE.false) c.step-row.result.state c.if-row-ge-LAST.true c.args.self.now.bytes
    ∙ sym (coded-same c.ended-then-row-ge-LAST.ensures.0 c.ended-then-row-ge-LAST.ensures.1)

pub loop-i-preserved-then-row-lt-LIVE : goal.loop-i-preserved-then-row-lt-LIVE
loop-i-preserved-then-row-lt-LIVE c =
    record {
      passed = omega arith;
      row = c.step-row.result.state;
      found = c.loop-i.invariant.found;
      scanned = scan-on c.loop-i-test.true (c.args.self.now.bytes c.loop-i.i) c.step-row.ensures c.step-row.result.state c.loop-i.invariant.scanned c.if-row-lt-LIVE.true;
    }

pub loop-i-preserved : goal.loop-i-preserved
loop-i-preserved c =
    record {
      passed = omega arith;
      row = c.step-row.result.state;
      found = c.step-row.result.state;
      scanned = scan-found c.loop-i-test.true (c.args.self.now.bytes c.loop-i.i) c.step-row.ensures c.step-row.result.state c.loop-i.invariant.scanned c.if-row-lt-LIVE.false;
    }
