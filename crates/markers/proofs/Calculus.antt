-- How a proof that acts handle their markers well is put together: which markers they take, and which they leave. Assumes nothing.
use mathlib.Core.Path.{refl}
use mathlib.Core.List.{List, [], ◌∷◌, ◌++◌}
use mathlib.Core.Bool.{Bool, true, false, cond}
use Prim.Native.Nat.{ℕ, zero, suc}
use lib.Dec.{T, eqb}
use Rattle.kinds.specs.Kinds.{EOF, L-CURLY, R-CURLY, ERROR}
use Rattle.kinds.specs.Membership.{one_of, both}
use Rattle.runtime.specs.declared.parser.Completed.{Completed}
use Rattle.runtime.specs.declared.parser.Stop.{Stop}
use Rattle.runtime.specs.declared.parser.Stop.TheVariants.{Panic}
use Rattle.runtime.specs.Acts.{Act.takes, Acts, Acts.done, Acts.act, ◌>>=◌, one as only, nth, nth_at, eat, at_ts, start, stop, is_refused, bump, bump_any, error, error_expected, expect, complete, abandon, precede, extend_to, err_recover, must, goes_on, Turn, Turn.more, Turn.last, iter, rounds, repeats}
use Rattle.markers.proofs.Marks.{Marker, Marker.fresh, Marker.made, Marker.shut, Marks}
use Rattle.markers.proofs.Live.{Closes, Closes.one, Closes.other, Closes.there, Drops, Drops.here, Drops.there, Has, Has.here, Has.there, Extends, Extends.here, Extends.there}
use Rattle.markers.proofs.Safe.{small, ordinary, node_kind, Handling, Handling.silent, Handling.leaves, Handling.halts, handling, SafeBy, Safe}

-- what follows an act, with less asked of it
follows : {X : Type 0} (c : Handling X) (o : Marks) (S S' : X → Marks → Type 0) → ((x : X) (r : Marks) → S x r → S' x r) → SafeBy c o S → SafeBy c o S'
follows silent o S S' f h = λ x. f x o (h x)
follows (leaves F R) o S S' f h = λ x. let u = h x in (u.0, u.1, f x u.0 u.2)
follows halts o S S' f h = tt

-- Safe acts one after another, and with less asked of them.
pub weaken : {A : Type 0} (m : Acts A) (o : Marks) (P Q : A → Marks → Type 0) → ((a : A) (r : Marks) → P a r → Q a r) → Safe m o P → Safe m o Q
weaken (done a) o P Q h s = h a o s
weaken (act a m) o P Q h s = follows (handling a) o (λ x r. Safe (m x) r P) (λ x r. Safe (m x) r Q) (λ x r. weaken (m x) r P Q h) s

pub safe-bind : {A B : Type 0} (m : Acts A) (f : A → Acts B) (o : Marks) (Q : B → Marks → Type 0) → Safe m o (λ a r. Safe (f a) r Q) → Safe (m >>= f) o Q
unfolding ◌>>=◌
safe-bind (done a) f o Q s = s
safe-bind (act a m) f o Q s = follows (handling a) o (λ x r. Safe (m x) r (λ y t. Safe (f y) t Q)) (λ x r. Safe (m x >>= f) r Q) (λ x r. safe-bind (m x) f r Q) s

-- The markers r are those of o, and above them, newest first, those of xs; completed ones that nobody asks for may stand between.
pub data Opens (o : Marks) : Marks → Marks → Type 0 where
  base : Opens o [] o
  extra : {i : ℕ} {xs r : Marks} → Opens o xs r → Opens o xs (shut i ∷ r)
  keep : {x : Marker} {xs r : Marks} → Opens o xs r → Opens o (x ∷ xs) (x ∷ r)

-- The acts take the markers xs and leave ys of their answer, whatever else is open.
pub record Run {A : Type 0} (xs : Marks) (m : Acts A) (ys : A → Marks) : Type 0 where
  pub runs : (o r : Marks) → Opens o xs r → Safe m r (λ a t. Opens o (ys a) t)

-- none is left
abbrev pub none : {A : Type 0} → A → Marks
none a = []

peel : {o : Marks} {x : Marker} {zs r : Marks} → Opens o (x ∷ zs) r → (t : Marks) × Opens o zs t × ((w ys : Marks) → Opens w ys t → Opens w (x ∷ ys) r)
peel (extra p) = let u = peel p in (u.0, u.1, λ w ys q. extra (u.2 w ys q))
peel (keep p) = (_, p, λ w ys q. keep q)

split : (xs : Marks) {us o r : Marks} → Opens o (xs ++ us) r → (w : Marks) × Opens w xs r × Opens o us w
split [] p = (_, base, p)
split (x ∷ xs) p = let u = peel p in let v = split xs u.1 in (v.0, u.2 v.0 xs v.1, v.2)

join : {w : Marks} {xs us o r : Marks} → Opens w xs r → Opens o us w → Opens o (xs ++ us) r
join base q = q
join (extra p) q = extra (join p q)
join (keep p) q = keep (join p q)

-- What acts do with their markers they do among others.
pub frame : {A : Type 0} (xs us : Marks) (m : Acts A) (ys : A → Marks) → Run xs m ys → Run (xs ++ us) m (λ a. ys a ++ us)
frame xs us m ys h =
    record {
      runs = λ o r p. let u = split xs {us = us} {o = o} {r = r} p in weaken m r (λ a t. Opens u.0 (ys a) t) (λ a t. Opens o (ys a ++ us) t) (λ a t q. join q u.2) (h.runs u.0 r u.1);
    }

-- One after another: the second takes what the first leaves.
pub then : {A B : Type 0} {xs : Marks} {zs : B → Marks} (m : Acts A) (f : A → Acts B) (ys : A → Marks) → Run xs m ys → ((a : A) → Run (ys a) (f a) zs) → Run xs (m >>= f) zs
then {xs = xs} {zs = zs} m f ys h k =
    record {
      runs = λ o r p. safe-bind m f r (λ b t. Opens o (zs b) t) (weaken m r (λ a t. Opens o (ys a) t) (λ a t. Safe (f a) t (λ b u. Opens o (zs b) u)) (λ a t q. (k a).runs o t q) (h.runs o r p));
    }

-- acts that take no marker and leave none, among others
pub also : {A B : Type 0} {us : Marks} {zs : B → Marks} (m : Acts A) (f : A → Acts B) → Run [] m none → ((a : A) → Run us (f a) zs) → Run us (m >>= f) zs
also {us = us} m f h k = then m f (λ a. us) (frame [] us m none h) k

-- acts that take no marker, among others
pub from : {A B : Type 0} {us : Marks} {zs : B → Marks} (m : Acts A) (f : A → Acts B) (ys : A → Marks) → Run [] m ys → ((a : A) → Run (ys a ++ us) (f a) zs) → Run us (m >>= f) zs
from {us = us} m f ys h k = then m f (λ a. ys a ++ us) (frame [] us m ys h) k

-- acts that take the newest marker
pub with : {A B : Type 0} {x : Marker} {us : Marks} {zs : B → Marks} (m : Acts A) (f : A → Acts B) (ys : A → Marks) → Run (x ∷ []) m ys → ((a : A) → Run (ys a ++ us) (f a) zs) → Run (x ∷ us) (m >>= f) zs
with {x = x} {us = us} m f ys h k = then m f (λ a. ys a ++ us) (frame (x ∷ []) us m ys h) k

pub ends : {A : Type 0} (a : A) (ys : A → Marks) → Run (ys a) (done a) ys
ends a ys = record { runs = λ o r p. p }

pub if : {A : Type 0} {xs : Marks} {ys : A → Marks} (b : Bool) (x y : Acts A) → Run xs x ys → Run xs y ys → Run xs (cond b x y) ys
if true x y h k = h
if false x y h k = k

-- a completed marker that nobody asks for: the newest, and the one before it
pub less : {o : Marks} {i : ℕ} {us r : Marks} → Opens o (shut i ∷ us) r → Opens o us r
less (extra p) = extra (less p)
less (keep p) = extra p

under : {o : Marks} {i : ℕ} {x : Marker} {us r : Marks} → Opens o (x ∷ shut i ∷ us) r → Opens o (x ∷ us) r
under (extra p) = extra (under p)
under (keep p) = keep (less p)

pub forget : {A : Type 0} {i : ℕ} {us : Marks} {ys : A → Marks} (m : Acts A) → Run us m ys → Run (shut i ∷ us) m ys
forget m h = record { runs = λ o r p. h.runs o r (less p) }

pub lose : {A : Type 0} {xs : Marks} (m : Acts A) (i : A → ℕ) (ys : A → Marks) → Run xs m (λ a. shut (i a) ∷ ys a) → Run xs m ys
lose m i ys h = record { runs = λ o r p. weaken m r (λ a t. Opens o (shut (i a) ∷ ys a) t) (λ a t. Opens o (ys a) t) (λ a t q. less q) (h.runs o r p) }

-- The marker acts.
closes_in : {i : ℕ} {o xs ys r : Marks} → Closes i xs ys → Opens o xs r → (t : Marks) × Closes i r t × Opens o ys t
closes_in {i = i} {o = o} {ys = ys} c base = elim c [ ]
closes_in c (extra p) = let u = closes_in c p in (_, there u.1, extra u.2)
closes_in one (keep p) = (_, one, keep p)
closes_in other (keep p) = (_, other, keep p)
closes_in (there c) (keep p) = let u = closes_in c p in (_, there u.1, keep u.2)

drops-in : {i : ℕ} {o xs ys r : Marks} → Drops i xs ys → Opens o xs r → (t : Marks) × Drops i r t × Opens o ys t
drops-in {i = i} {o = o} {ys = ys} c base = elim c [ ]
drops-in c (extra p) = let u = drops-in c p in (_, there u.1, extra u.2)
drops-in here (keep p) = (_, here, p)
drops-in (there c) (keep p) = let u = drops-in c p in (_, there u.1, keep u.2)

has_in : {i : ℕ} {o xs r : Marks} → Has i xs → Opens o xs r → Has i r
has_in {i = i} {o = o} c base = elim c [ ]
has_in c (extra p) = there (has_in c p)
has_in here (keep p) = here
has_in (there c) (keep p) = there (has_in c p)

extends-in : {i j : ℕ} {o xs ys r : Marks} → Extends i j xs ys → Opens o xs r → (t : Marks) × Extends i j r t × Opens o ys t
extends-in {i = i} {j = j} {o = o} {ys = ys} c base = elim c [ ]
extends-in c (extra p) = let u = extends-in c p in (_, there u.1, extra u.2)
extends-in (here d) (keep p) = let u = drops-in d p in (_, here u.1, keep u.2)
extends-in (there c) (keep p) = let u = extends-in c p in (_, there u.1, keep u.2)

pub run-start : (us : Marks) → Run us start (λ i. fresh i ∷ us)
run-start us = record { runs = λ o r p i. (_, refl, keep p) }

pub run-complete : (i k : ℕ) {xs ys : Marks} → T (node_kind k) → Closes i xs ys → Run xs (complete i k) (λ c. ys)
run-complete i k t c = record { runs = λ o r p x. let u = closes_in c p in (u.0, (t, u.1), u.2) }

-- the newest open marker, whose completed one nobody asks for
pub finish : (i k : ℕ) {us : Marks} → T (node_kind k) → Run (fresh i ∷ us) (complete i k) (λ c. us)
finish i k {us} t = lose (complete i k) (λ c. i) (λ c. us) (run-complete i k t one)

pub run-abandon : (i : ℕ) {xs ys : Marks} → Drops i xs ys → Run xs (abandon i) (λ a. ys)
run-abandon i d = record { runs = λ o r p x. drops-in d p }

pub run-precede : (c : Completed) (us : Marks) → Run (shut c.pos ∷ us) (precede c) (λ j. made j ∷ us)
run-precede c us = record { runs = λ o r p j. (_, (has_in here p, refl), keep (less p)) }

-- a fresh marker up to the completed one before it
pub run-extend : (c : Completed) (m : ℕ) (us : Marks) → Run (shut c.pos ∷ fresh m ∷ us) (extend_to c m) (λ a. shut a.pos ∷ us)
run-extend c m us = record { runs = λ o r p x. extends-in (here here) p }

-- The others.
pub run_look : (n : ℕ) → Run [] (nth n) none
run_look n = record { runs = λ o r p x. p }

pub run_at : (n k : ℕ) → Run [] (nth_at n k) none
run_at n k = record { runs = λ o r p b. p }

pub run-eat : (k : ℕ) → Run [] (eat k) none
run-eat k = record { runs = λ o r p b. p }

run_take : Run [] (only takes) none
run_take = record { runs = λ o r p x. p }

pub run-refused : Run [] is_refused none
run-refused = record { runs = λ o r p b. p }

pub run-error : (c a : ℕ) → T (both (ordinary c) (small a)) → Run [] (error c a) none
run-error c a t = record { runs = λ o r p x. (_, (t, refl), p) }

pub run-expected : (k : ℕ) → T (small k) → Run [] (error_expected k) none
run-expected k t = record { runs = λ o r p x. (_, (t, refl), p) }

-- after a stop nothing is asked
pub run-stop : {A : Type 0} (w : Stop) (f : Unit {0} → Acts A) (xs : Marks) (ys : A → Marks) → Run xs (stop w >>= f) ys
unfolding ◌>>=◌
run-stop w f xs ys = record { runs = λ o r p. tt }

pub run-stop-last : (w : Stop) (xs : Marks) (ys : Unit {0} → Marks) → Run xs (stop w) ys
run-stop-last w xs ys = record { runs = λ o r p. tt }

-- The operations that are made of these.
pub run-at-ts : (set : List ℕ) → Run [] (at_ts set) none
unfolding at_ts
run-at-ts set = also _ _ (run_look 0) (λ k. ends _ none)

pub run-bump : (k : ℕ) → Run [] (bump k) none
unfolding bump
run-bump k = also _ _ (run-eat k) (λ b. if b _ _ (ends tt none) (run-stop-last Panic [] none))

pub run-bump-any : Run [] bump_any none
unfolding bump_any
run-bump-any = also _ _ (run_look 0) (λ k. if (eqb k EOF) _ _ (ends tt none) run_take)

pub run-expect : (k : ℕ) → T (small k) → Run [] (expect k) none
unfolding expect
run-expect k t = also _ _ (run-eat k) (λ b. if b _ _ (ends true none) (also _ _ (run-expected k t) (λ u. ends false none)))

pub run-must : (k : ℕ) → Run [] (must k) none
unfolding must
run-must k = also _ _ (run_at 0 k) (λ b. if b _ _ (ends tt none) (run-stop-last Panic [] none))

pub run-goes-on : (k : ℕ) → Run [] (goes_on k) none
unfolding goes_on
run-goes-on k = also _ _ (run_at 0 EOF) (λ b. if b _ _ (ends false none) (also _ _ (run_at 0 k) (λ c. ends _ none)))

-- a node that is finished at its end
pub node : {A : Type 0} (f : ℕ → Acts A) (ys : A → Marks) → ((i : ℕ) → Run (fresh i ∷ []) (f i) ys) → Run [] (start >>= f) ys
node f ys h = then _ f (λ i. fresh i ∷ []) (run-start []) h

-- a loop that carries markers
abbrev pub turns : {X : Type 0} → (X → Marks) → Turn X → Marks
turns tr (more y) = tr y
turns tr (last y) = tr y

run-iter : {X : Type 0} (f : X → Acts (Turn X)) (tr : X → Marks) → ((x : X) → Run (tr x) (f x) (turns tr)) → (n : ℕ) (x : X) → Run (tr x) (iter n f x) tr
unfolding iter
run-iter f tr h zero x = ends x tr
run-iter f tr h (suc n) x = then (f x) _ (turns tr) (h x) (again (run-iter f tr h n))
  where
    again : ((y : _) → Run (tr y) (iter n f y) tr) → (t : Turn _) → Run (turns tr t) (elim t [ more y ↦ iter n f y | last y ↦ done y ]) tr
    again g (more y) = g y
    again g (last y) = ends y tr

pub run-repeats : {X : Type 0} (f : X → Acts (Turn X)) (tr : X → Marks) → ((x : X) → Run (tr x) (f x) (turns tr)) → (x : X) → Run (tr x) (repeats f x) tr
run-repeats f tr h x = run-iter f tr h rounds x

-- a message
abbrev pub message : ℕ → Bool
message c = both (ordinary c) (small 0)

pub run-err-recover : (code : ℕ) (set : List ℕ) → T (message code) → Run [] (err_recover code set) none
unfolding err_recover
run-err-recover code set t =
    also _ _ (run_look 0)
    (λ k. if (one_of (L-CURLY ∷ R-CURLY ∷ []) k) _ _ (run-error code 0 t)
    (also _ _ (run-at-ts set)
    (λ b. if b _ _ (run-error code 0 t)
    (node _ none (λ m. also _ _ (run-error code 0 t) (λ u. also _ _ run-bump-any (λ v. then _ _ (λ c. []) (finish m ERROR tt) (λ c. ends tt none))))))))

-- The forms that productions are written in: a start, the end of its node, a marker that is abandoned, and what follows.
pub opening : {B : Type 0} {us : Marks} {zs : B → Marks} (f : ℕ → Acts B) → ((i : ℕ) → Run (fresh i ∷ us) (f i) zs) → Run us (start >>= f) zs
opening {us = us} f h = then _ f (λ i. fresh i ∷ us) (run-start us) h

pub closing : {B : Type 0} {us : Marks} {zs : B → Marks} (i k : ℕ) (f : Completed → Acts B) → T (node_kind k) → ((c : Completed) → Run us (f c) zs) → Run (fresh i ∷ us) (complete i k >>= f) zs
closing {us = us} i k f t h = then _ f (λ c. us) (finish i k t) h

pub dropping : {B : Type 0} {us : Marks} {zs : B → Marks} (i : ℕ) (f : Unit {0} → Acts B) → Run us (f tt) zs → Run (fresh i ∷ us) (abandon i >>= f) zs
dropping {us = us} i f h = then _ f (λ u. us) (run-abandon i here) (λ u. h)

-- at the end
pub closed : (i k : ℕ) → T (node_kind k) → Run {A = Unit {0}} (fresh i ∷ []) (complete i k >>= (λ c. done tt)) none
closed i k t = closing i k _ t (λ c. ends tt none)

pub dropped : (i : ℕ) → Run (fresh i ∷ []) (abandon i) none
dropped i = run-abandon i here

-- the completed marker is the answer
abbrev pub made_of : Completed → Marks
made_of c = shut c.pos ∷ []

pub answered : (i k : ℕ) → T (node_kind k) → Run (fresh i ∷ []) (complete i k) made_of
answered i k t = record { runs = λ o r p x. let u = closes_in one p in (u.0, (t, u.1), u.2) }

pub answered-around : (i k : ℕ) → T (node_kind k) → Run (made i ∷ []) (complete i k) made_of
answered-around i k t = record { runs = λ o r p x. let u = closes_in other p in (u.0, (t, u.1), u.2) }

-- an answer that nobody reads
pub unread : {A : Type 0} {xs : Marks} (m : Acts A) → Run xs m none → Run {A = Unit {0}} xs (m >>= (λ a. done tt)) none
unread m h = then m _ none h (λ a. ends tt none)

pub unasked : {xs : Marks} (m : Acts Completed) → Run xs m made_of → Run xs m none
unasked m h = lose m (λ c. c.pos) none h

-- `if c { m }`
pub perhaps : (b : Bool) (m : Acts (Unit {0})) → Run [] m none → Run [] (cond b m (done tt)) none
perhaps b m h = if b _ _ h (ends tt none)

pub closed-around : (i k : ℕ) → T (node_kind k) → Run {A = Unit {0}} (made i ∷ []) (complete i k >>= (λ c. done tt)) none
closed-around i k t = unread _ (unasked _ (answered-around i k t))

-- a branch on an answer that says which markers are left
pub branch : {A : Type 0} {xs ys : Marks} {zs : A → Marks} (b : Bool) (x y : Acts A) → Run xs x zs → Run ys y zs → Run (cond b xs ys) (cond b x y) zs
branch true x y h k = h
branch false x y h k = k

-- the open marker before the newest one
pub closing-under : {B : Type 0} {x : Marker} {us : Marks} {zs : B → Marks} (i k : ℕ) (f : Completed → Acts B) → T (node_kind k) → ((c : Completed) → Run (x ∷ us) (f c) zs) → Run (x ∷ fresh i ∷ us) (complete i k >>= f) zs
closing-under {x = x} {us = us} i k f t h = then _ f (λ c. x ∷ us) (record { runs = λ o r p a. let u = closes_in (there one) p in (u.0, (t, u.1), under u.2) }) h
