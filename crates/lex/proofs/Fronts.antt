-- A room whose front is written, a place at a time. Assumes nothing.
use mathlib.Core.Path.{◌≡◌, refl, sym, ap, subst, ◌∙◌}
use mathlib.Core.List.{List, [], ◌∷◌, ◌++◌, append_assoc, append-nil}
use Prim.Native.Nat.{ℕ, suc, ◌+◌, ◌<◌}
use native.Mathlib.Omega.{arith}
use lib.ListN.{length, get_or, drop, set, length-append}
use lib.Seq.{drop-cons}
use Rattle.lex.specs.Lexing.{at_front}

-- the first n places hold the front of a list whose rest is to come, and behind them the room is as it was
pub record Front (room₀ room whole rest : List ℕ) (n : ℕ) : Type 0 where
  pub done : List ℕ
  pub size : length done ≡ n
  pub now : room ≡ done ++ drop n room₀
  pub told : whole ≡ done ++ rest

put_one : (done rest : List ℕ) (a x : ℕ) → set (done ++ a ∷ rest) (length done) x ≡ (done ++ x ∷ []) ++ rest
put_one [] rest a x = refl
put_one (y ∷ done) rest a x = ap (λ (l : List ℕ). y ∷ l) (put_one done rest a x)

module _ {room₀ room whole : List ℕ} {n : ℕ} where
  pub front-put : (x : ℕ) (rest : List ℕ) → Front room₀ room whole (x ∷ rest) n → n < length room₀ → Front room₀ (set room n x) whole rest (suc n)
  front-put x rest h l =
      record {
        done = h.done ++ x ∷ [];
        size = length-append h.done (x ∷ []) ∙ omega (arith, h.size);
        now =
            ap (λ (r : List ℕ). set r n x) (h.now ∙ ap (λ (r : List ℕ). h.done ++ r) (drop-cons room₀ n 0 l))
            ∙ subst (λ (j : ℕ). set (h.done ++ get_or room₀ n 0 ∷ drop (suc n) room₀) j x ≡ (h.done ++ x ∷ []) ++ drop (suc n) room₀) h.size (put_one h.done (drop (suc n) room₀) (get_or room₀ n 0) x);
        told = h.told ∙ sym (append_assoc h.done (x ∷ []) rest);
      }

  pub front-size : (rest : List ℕ) → Front room₀ room whole rest n → length whole ≡ n + length rest
  front-size rest h = ap length h.told ∙ length-append h.done rest ∙ ap (λ (k : ℕ). k + length rest) h.size

  pub front-end : Front room₀ room whole [] n → room ≡ at_front whole room₀
  front-end h =
      let all : whole ≡ h.done = h.told ∙ append-nil h.done in
      rw all (h.now ∙ ap (λ (k : ℕ). h.done ++ drop k room₀) (sym h.size))

-- what is to come under another name
pub front_same : {room₀ room whole : List ℕ} {n : ℕ} (rest rest' : List ℕ) → rest ≡ rest' → Front room₀ room whole rest n → Front room₀ room whole rest' n
front_same {room₀} {room} {whole} {n} rest rest' e h = subst (λ (r : List ℕ). Front room₀ room whole r n) e h
