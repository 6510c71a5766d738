-- Laws of one turn, of the ends and of each return of the functions that deal out a page, over the machine forms.
use mathlib.Core.Bool.{Bool, true, false, cond}
use mathlib.Core.List.{List}
use mathlib.Core.Path.{◌≡◌, refl, sym, ap, ap₂, ◌∙◌}
use Prim.Native.Nat.{ℕ, suc, ◌+◌, ◌-◌, ◌*◌, ◌<◌, ◌≤◌, min}
use native.Mathlib.Omega.{arith}
use native.Mathlib.Nat.{add-zero, suc-mul, mul-le-mul, mul-le-mul_left}
use native.Mathlib.Numerals.{add-one}
use lib.Dec.{leb, ltb, eqb, leb→le, nleb→lt}
use lib.ListN.{length, take, drop, get_or, set, replicate}
use lib.Seq.{sets, drop-cons, get_or-take, get_or-drop, set-get_or, get_or-set_other}
use borrow.Author.Tests.{eq-eqb, ne_eqb}
use Rattle.std.proofs.Common.{Result, Ok, Err}
use Rattle.std.specs.Result.{IsErr}
use Rattle.kdb.specs.Calls.{L}
use Rattle.kdb.proofs.Tests.{bool}
use Rattle.kdb.proofs.Stores.{take_set, take_sets, sets_out}
use Rattle.words.specs.Words.{lowest}
use Rattle.steps.specs.Machine.{Claimed, fresh_in, append_in}
use Rattle.steps.specs.Claim.{claim_in}
use Rattle.steps.specs.Split.{points_in, part_points}
use Rattle.deal.specs.declared.Wanting.{Wanting}
use Rattle.deal.specs.Part.{claimed, open_in, half_in, both_in}

-- storing a part: from a place past the end nothing is stored
pub store_first : (x v : List ℕ) (at s : ℕ) → s ≡ min at (length x) → sets x (s + 0) v ≡ sets x at v
store_first x v at s h = rw (add-zero s) (bool (leb at (length x))
    (λ t. let l = leb→le at (length x) t in let e : s ≡ at = omega arith in ap (λ i. sets x i v) e)
    (λ t. let l = nleb→lt at (length x) t in sets_out x v s (omega arith) ∙ sym (sets_out x v at (omega arith))))

module _ (x : List ℕ) (s i : ℕ) (v y : List ℕ) where
  pub store_next : sets x (s + i) (drop i v) ≡ y → i < length v → sets (set x (s + i) (get_or v i 0)) (s + (i + 1)) (drop (i + 1) v) ≡ y
  store_next e h =
      let q : s + (i + 1) ≡ suc (s + i) = omega arith in
      rw (q, add-one i) (rw (drop-cons v i 0 h) at e)

-- fresh pages and claims
pub fresh_is : (w : List ℕ) (c kind e : ℕ) → set (set (sets w (32 * c) (replicate (32 * c + 32 - 32 * c) 0)) (32 * c) kind) (32 * c + 2) e ≡ fresh_in L w c kind e
unfolding fresh_in
fresh_is w c kind e = let q : 32 * c + 32 - 32 * c ≡ 32 = omega arith in rw q

pub none_is : (q : Result ℕ Wanting) (w : List ℕ) → IsErr q → claimed q w ≡ record { page = 0; words = w }
none_is (Ok r) w h = absurd (let y : false ≡ true = h in cc)
none_is (Err x) w h = refl

module _ (n kind e : ℕ) (w : List ℕ) where
  pub claim_none : (q : Result ℕ Wanting) → IsErr q → n ≡ lowest L n w → claimed q w ≡ claim_in L n kind e w
  unfolding claim_in
  claim_none q y h = none_is q w y ∙ (rw (eq-eqb (lowest L n w) n (sym h)))

  pub claim_some : (r : ℕ) → r ≡ lowest L n w → r < n → claimed (Ok r) (fresh_in L w r kind e) ≡ claim_in L n kind e w
  unfolding claim_in
  claim_some r h g = rw (← h, ne_eqb r n (λ z. omega arith))

module _ (n kind e j : ℕ) (w v : List ℕ) where
  pub open_none : (q : Result ℕ Wanting) → IsErr q → record { page = 0; words = v } ≡ claim_in L n kind e w → claimed q v ≡ open_in n kind e j w
  unfolding open_in
  open_none q y h = none_is q v y ∙ (rw (← h))

  pub open_some : (r : ℕ) → 1 ≤ r → record { page = r; words = v } ≡ claim_in L n kind e w → claimed (Ok r) (fresh_in L v j kind e) ≡ open_in n kind e j w
  unfolding open_in
  open_some r z h = rw (← h, ne_eqb r 0 (λ q. omega arith))

-- appending
pub small : (m wd : ℕ) → 4 + (m + 1) * wd ≤ 32 → m * wd ≤ 28
small m wd h = omega (arith, suc-mul m wd, rw (add-one m) at h)

pub fewer : (m wd : ℕ) → 1 ≤ wd → m + 1 ≤ (m + 1) * wd
fewer m wd h = omega (arith, mul-le-mul_left (m + 1) h)

pub near : (m wd : ℕ) → m < 4294967296 → wd ≤ 9 → (m + 1) * wd ≤ 4294967296 * 9
near m wd h g = mul-le-mul (let q : m + 1 ≤ 4294967296 = omega arith in q) g

-- dealing out records
pub points_end : (k d x n : ℕ) (src : List ℕ) (a j r : ℕ) (w : List ℕ) → n ≡ 0 → points_in L k d x n src a j r w ≡ w
unfolding points_in
points_end k d x n src a j r w h = rw h

module _ (k d x m i j r : ℕ) (src w z : List ℕ) (e : points_in L k d x (m - i) src (4 + i * (k + 1)) j r w ≡ z) where
  pub points_next : i < m → d < k → (u : List ℕ) (to : ℕ) → u ≡ take (k + 1) (drop (4 + i * (k + 1)) src) → to ≡ cond (ltb (get_or u d 0) x) j r
      → points_in L k d x (m - (i + 1)) src (4 + (i + 1) * (k + 1)) j r (append_in L (k + 1) w to u) ≡ z
  unfolding points_in
  points_next h g u to y t =
      let a = 4 + i * (k + 1) in
      let q : m - i ≡ suc (m - (i + 1)) = omega arith in
      let n : 4 + (i + 1) * (k + 1) ≡ a + (k + 1) = rw (add-one i) (omega (arith, suc-mul i (k + 1))) in
      let v : get_or u d 0 ≡ get_or src (a + d) 0 = ap (λ l. get_or l d 0) y ∙ get_or-take (k + 1) (drop a src) d 0 (omega arith) ∙ get_or-drop a src d 0 in
      rw (n, t, v, y) (rw q at e)

-- what follows where the right page was claimed
module _ (F : List ℕ → List ℕ) (G : ℕ → List ℕ → Claimed) (o : Claimed) (v : List ℕ) where
  pub none_open : (q : Result ℕ Wanting) → IsErr q → record { page = 0; words = v } ≡ cond (eqb o.page 0) o (record { page = o.page; words = F o.words })
      → claimed q v ≡ cond (eqb o.page 0) o (G o.page (F o.words))
  none_open q y h = none_is q v y ∙ go (eqb o.page 0) refl h
    where
      go : (t : Bool) → eqb o.page 0 ≡ t → record { page = 0; words = v } ≡ cond t o (record { page = o.page; words = F o.words })
          → record { page = 0; words = v } ≡ cond t o (G o.page (F o.words))
      go true q h = h
      go false q h = absurd (let z : eqb o.page 0 ≡ true = ap (λ c. eqb c.page 0) (sym h) in let y : false ≡ true = sym q ∙ z in cc)

  pub some_open : (r : ℕ) → 1 ≤ r → claimed (Ok r) v ≡ cond (eqb o.page 0) o (record { page = o.page; words = F o.words })
      → G r v ≡ cond (eqb o.page 0) o (G o.page (F o.words))
  some_open r l h = go (eqb o.page 0) refl h
    where
      go : (t : Bool) → eqb o.page 0 ≡ t → claimed (Ok r) v ≡ cond t o (record { page = o.page; words = F o.words })
          → G r v ≡ cond t o (G o.page (F o.words))
      go true q h = absurd (let z : eqb r 0 ≡ true = ap (λ c. eqb c.page 0) h ∙ q in let y : true ≡ false = sym z ∙ ne_eqb r 0 (λ e. omega arith) in cc)
      go false q h = ap₂ G (ap (λ c. c.page) h) (ap (λ c. c.words) h)

module _ (n k d x m e j : ℕ) (src w v : List ℕ) where
  pub points_none : (q : Result ℕ Wanting) → IsErr q → record { page = 0; words = v } ≡ open_in n 2 e j w → claimed q v ≡ part_points L n k d x src m e j w
  unfolding open_in part_points
  points_none q i h = none_open (λ u. fresh_in L u j 2 e) (λ q u. claimed (Ok q) (points_in L k d x m src 4 j q u)) (claim_in L n 2 e w) v q i h

  pub points_some : (r : ℕ) → 1 ≤ r → claimed (Ok r) v ≡ open_in n 2 e j w → claimed (Ok r) (points_in L k d x m src 4 j r v) ≡ part_points L n k d x src m e j w
  unfolding open_in part_points
  points_some r l h = some_open (λ u. fresh_in L u j 2 e) (λ q u. claimed (Ok q) (points_in L k d x m src 4 j q u)) (claim_in L n 2 e w) v r l h

-- halves of an entry
pub half_is : (k : ℕ) (u : List ℕ) (i x q : ℕ) (zs : List ℕ) → length u ≤ length zs → take (length u) (set (set (sets zs 0 u) i x) (2 * k) q) ≡ half_in k u i x q
half_is k u i x q zs h =
    take_set (length u) (set (sets zs 0 u) i x) (2 * k) q
    ∙ ap (λ l. set l (2 * k) q) (take_set (length u) (sets zs 0 u) i x ∙ ap (λ l. set l i x) (take_sets zs u h))

-- the left half keeps its child
pub both_is : (k d x : ℕ) (u : List ℕ) (j r q : ℕ) (w : List ℕ) → d < k
    → append_in L (2 * k + 1) (append_in L (2 * k + 1) w j (half_in k u (k + d) x (get_or u (2 * k) 0))) r (half_in k u d x q) ≡ both_in k d x u j r q w
unfolding both_in
both_is k d x u j r q w h =
    let e : get_or u (2 * k) 0 ≡ get_or (set u (k + d) x) (2 * k) 0 = sym (get_or-set_other u (k + d) (2 * k) x 0 (λ z. omega arith)) in
    ap (λ l. append_in L (2 * k + 1) (append_in L (2 * k + 1) w j l) r (half_in k u d x q)) (ap (set (set u (k + d) x) (2 * k)) e ∙ set-get_or (set u (k + d) x) (2 * k) 0)
