-- src/grammar.rs handles its markers well: a lemma for each definition. Assumes nothing.
use Rattle.runtime.specs.declared.parser.Completed.{Completed}
use Rattle.std.specs.Prelude.{Option}
use mathlib.Core.List.{List, []}
use mathlib.Core.Bool.{Bool, true, false, not}
use Prim.Native.Nat.{ℕ}
use lib.Dec.{T}
use Rattle.kinds.specs.Kinds.{THIN-ARROW, IDENT, HARDWAREIDENT, HARDWARE-QUBIT, NAME, RETURN-SIGNATURE}
use Rattle.kinds.specs.Membership.{one_of}
use Rattle.kinds.specs.Sets.{SCALAR-TYPES, TYPES}
use Rattle.kinds.specs.Messages.{EXPECTED-A-NAME}
use Rattle.runtime.specs.Acts.{Acts}
use Rattle.grammar.specs.Grammar.{Counted, fail_if_at, fail_unless_at, name_r, separator, is_some, delimited_round, delimited, scalar_return, opt_ret_type}
use Rattle.markers.proofs.Safe.{small}
use Rattle.markers.proofs.Calculus.{Run, none, also, ends, if, run_look, run_at, run-at-ts, run-bump, run-expect, run-error, run-expected, run-goes-on, run-repeats, run-err-recover, message, opening, closed, dropped, unread, perhaps}
use Rattle.markers.proofs.Counted.{Tidy, unseen, gotten}

pub fail-if-at : (k code : ℕ) → T (message code) → Run [] (fail_if_at k code) none
unfolding fail_if_at
fail-if-at k code t = also _ _ (run_at 0 k) (λ b. perhaps b _ (run-error code 0 t))

pub fail-unless-at : (k code : ℕ) → T (message code) → Run [] (fail_unless_at k code) none
unfolding fail_unless_at
fail-unless-at k code t = also _ _ (run_at 0 k) (λ b. perhaps (not b) _ (run-error code 0 t))

pub name-r : (recovery : List ℕ) → Run [] (name_r recovery) none
unfolding name_r
name-r recovery =
    also _ _ (run_at 0 HARDWAREIDENT)
    (λ b. if b _ _ (opening _ (λ m. also _ _ (run-bump HARDWAREIDENT) (λ u. closed m HARDWARE-QUBIT tt)))
    (also _ _ (run_at 0 IDENT)
    (λ b. if b _ _ (opening _ (λ m. also _ _ (run-bump IDENT) (λ u. closed m NAME tt))) (run-err-recover EXPECTED-A-NAME recovery tt))))

sep : (delim : ℕ) (first : List ℕ) → T (small delim) → Run [] (separator delim first) none
unfolding separator
sep delim first t =
    also _ _ (run_at 0 delim)
    (λ b. if b _ _ (also _ _ (run-bump delim) (λ u. ends true none))
    (also _ _ (run-at-ts first) (λ b. if b _ _ (also _ _ (run-expected delim t) (λ u. ends true none)) (ends false none))))

pub delimited-tidy : (bra ket : ℕ) (consume : Bool) (delim : ℕ) (first : List ℕ) (parser : Acts (Option (Completed × Bool))) → T (small ket) → T (small delim) → Run [] parser gotten → Run [] (delimited bra ket consume delim first parser) none
unfolding delimited delimited_round
delimited-tidy bra ket consume delim first parser k t h =
    also _ _ (perhaps consume _ (run-bump bra))
    (λ u. also _ _ (run-repeats _ none (λ x. also _ _ (run-goes-on ket) (λ go. if go _ _ (also _ _ (unseen parser h) (λ g. if (is_some g) _ _ (also _ _ (sep delim first t) (λ b. if b _ _ (ends _ _) (ends _ _))) (ends _ _))) (ends _ _))) tt)
    (λ v. perhaps consume _ (unread _ (run-expect ket k))))

scalar-return : Run [] scalar_return none
unfolding scalar_return
scalar-return = also _ _ (run_look 0) (λ k. perhaps (not (one_of SCALAR-TYPES k)) _ (run-error _ 0 tt))

module _ (deeper : Counted) (h : Tidy deeper) where
  pub opt-ret-type : Run [] (opt_ret_type deeper) none
  unfolding opt_ret_type
  opt-ret-type =
      also _ _ (run_at 0 THIN-ARROW)
      (λ b. perhaps b _ (opening _ (λ m. also _ _ (run-bump THIN-ARROW) (λ u. also _ _ scalar-return (λ v. also _ _ (run_look 0)
      (λ k. if (one_of TYPES k) _ _ (also _ _ h.type-spec (λ w. closed m RETURN-SIGNATURE tt)) (dropped m)))))))
