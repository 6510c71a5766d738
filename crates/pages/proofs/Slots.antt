-- The points that stand in words one behind the other, as code meets them: the tests of their columns and of their keys.
use mathlib.Core.Bool.{Bool, true, false, ◌&&◌, not}
use mathlib.Core.List.{List, [], ◌∷◌, map}
use mathlib.Core.Path.{◌≡◌, refl, sym, ap, ap₂, ◌∙◌}
use Prim.Native.Nat.{ℕ, zero, suc, ◌+◌, ◌/◌, ◌<◌, ◌≤◌}
use native.Mathlib.Omega.{arith}
use native.Mathlib.Nat.{zero-add}
use native.Mathlib.Numerals.{add-one}
use lib.Dec.{eqb}
use lib.ListN.{length, take, drop, get_or, drop_of_length-le}
use lib.Seq.{drop-cons, get_or-take}
use borrow.Author.Tests.{ne_eqb}
use Rattle.std.proofs.lemmas.List.{take-take}
use Rattle.std.specs.Cmp.Lexicographic.{pointwise}
use Rattle.std.specs.List.{list_all, range_with_len}
use Rattle.kdb.specs.Lists.{bit, every, Each, same, tally}
use Rattle.kdb.specs.Box.{Side, Box, Key, sides, within}
use Rattle.kdb.specs.Tree.{Rec}
use Rattle.kdb.specs.Pages.{read_recs}
use Rattle.kdb.proofs.Tests.{and_assoc, and_swap}
use Rattle.boxes.proofs.Tests.{long}
use Rattle.cover.proofs.Entries.{pieces, pieces_of, every_map}
use Rattle.cover.proofs.Sides.{sides_turn}
use Rattle.pages.specs.Tests.{recs_of, key_inside, column_in, unlike}

-- the record of a point's words
abbrev pub rec_in : ℕ → List ℕ → Rec
rec_in k c = record { key = take k c; loc = get_or c k 0 }

rec_is : (k : ℕ) (ws : List ℕ) → rec_in k (take (k + 1) ws) ≡ rec_in k ws
rec_is k ws = ap₂ (λ (x : Key) (y : ℕ). record { key = x; loc = y }) (take-take k (k + 1) ws (omega arith)) (get_or-take (k + 1) ws k 0 (omega arith))

recs_pieces : (k n : ℕ) (ws : List ℕ) → map (rec_in k) (pieces (k + 1) n ws) ≡ read_recs k n ws
recs_pieces k zero ws = refl
recs_pieces k (suc n) ws = ap₂ ◌∷◌ (rec_is k ws) (recs_pieces k n (drop (k + 1) ws))

-- the keys in one domain
all_same : {A : Type 0} (f g : A → Bool) → ((a : A) → f a ≡ g a) → (l : List A) → list_all f l ≡ list_all g l
all_same f g h [] = refl
all_same f g h (a ∷ l) = ap₂ ◌&&◌ (h a) (all_same f g h l)

pub column_pieces : (k d : ℕ) (s : Side) (ws : List ℕ) → d < k → list_all (λ c. key_inside s (get_or c d 0)) (pieces_of (k + 1) ws) ≡ column_in d s (recs_of k ws)
column_pieces k d s ws h =
    all_same (λ c. key_inside s (get_or c d 0)) (λ c. key_inside s (get_or (take k c) d 0)) (λ c. ap (key_inside s) (sym (get_or-take k c d 0 h))) (pieces_of (k + 1) ws)
    ∙ every_map (λ q. key_inside s (get_or q.key d 0)) (rec_in k) (pieces_of (k + 1) ws)
    ∙ ap (column_in d s) (recs_pieces k (length ws / (k + 1)) ws)

-- a key that is none of those of the points
pub unlike_cons : (x : Key) (q : Rec) (rs : List Rec) → unlike x (q ∷ rs) ≡ not (same x q.key) && unlike x rs
unlike_cons x q rs = go (same x q.key)
  where
    go : (b : Bool) → eqb (bit b + tally (λ r. same x r.key) rs) 0 ≡ not b && unlike x rs
    go true = ne_eqb _ 0 (λ z. omega arith)
    go false = rw zero-add

unlike_every : (x : Key) (rs : List Rec) → every (λ q. not (same x q.key)) rs ≡ unlike x rs
unlike_every x [] = refl
unlike_every x (q ∷ rs) = ap (λ b. not (same x q.key) && b) (unlike_every x rs) ∙ sym (unlike_cons x q rs)

pub unlike_pieces : (k : ℕ) (x : Key) (ws : List ℕ) → list_all (λ c. not (same x (take k c))) (pieces_of (k + 1) ws) ≡ unlike x (recs_of k ws)
unlike_pieces k x ws =
    every_map (λ q. not (same x q.key)) (rec_in k) (pieces_of (k + 1) ws)
    ∙ unlike_every x (map (rec_in k) (pieces_of (k + 1) ws))
    ∙ ap (unlike x) (recs_pieces k (length ws / (k + 1)) ws)

pub pointwise_same : (xs ys : List ℕ) → pointwise eqb xs ys ≡ same xs ys
pointwise_same [] [] = refl
pointwise_same [] (y ∷ ys) = refl
pointwise_same (x ∷ xs) [] = refl
pointwise_same (x ∷ xs) (y ∷ ys) = ap (λ b. eqb x y && b) (pointwise_same xs ys)

-- points in a region, domain by domain: those in the side of domain d, and in the sides after it
columns : (k d : ℕ) (s : Side) (r : Box) (rs : List Rec) → Each (λ q. length q.key ≡ k) rs → d < k
    → column_in d s rs && every (λ q. within r (drop (d + 1) q.key)) rs ≡ every (λ q. within (s ∷ r) (drop d q.key)) rs
columns k d s r [] h l = refl
columns k d s r (q ∷ rs) h l =
    let x = key_inside s (get_or q.key d 0) in
    let y = within r (drop (d + 1) q.key) in
    let u = column_in d s rs in
    let v = every (λ a. within r (drop (d + 1) a.key)) rs in
    let e : within (s ∷ r) (drop d q.key) ≡ x && y = rw (drop-cons q.key d 0 (omega (arith, h.0)), add-one) in
    and_assoc x u (y && v) ∙ (ap (λ t. x && t) (and_swap u y v) ∙ (sym (and_assoc x y (u && v)) ∙ ap₂ ◌&&◌ (sym e) (columns k d s r rs h.1 l)))

columns_end : (k d : ℕ) (rs : List Rec) → Each (λ q. length q.key ≡ k) rs → k ≤ d → true ≡ every (λ q. within [] (drop d q.key)) rs
columns_end k d [] h l = refl
columns_end k d (q ∷ rs) h l = rw (drop_of_length-le q.key {i = d} (omega (arith, h.0))) (columns_end k d rs h.1 l)

pub all_columns : (k : ℕ) (ls us : List ℕ) (rs : List Rec) → Each (λ q. length q.key ≡ k) rs → length ls ≡ k → length us ≡ k → (i m : ℕ) → i + m ≡ k
    → list_all (λ d. column_in d (record { lo = get_or ls d 0; hi = get_or us d 0 }) rs) (range_with_len i m) ≡ every (λ q. within (drop i (sides ls us)) (drop i q.key)) rs
all_columns k ls us rs h a b i zero e = rw (drop_of_length-le (sides ls us) {i = i} (omega (arith, long ls us))) (columns_end k i rs h (omega arith))
all_columns k ls us rs h a b i (suc m) e =
    let s : Side = record { lo = get_or ls i 0; hi = get_or us i 0 } in
    let t : drop i (sides ls us) ≡ s ∷ drop (i + 1) (sides ls us) = rw add-one (sides_turn ls us i (omega arith) (omega arith)) in
    rw t (ap (λ x. column_in i s rs && x) (all_columns k ls us rs h a b (i + 1) m (omega arith)) ∙ columns k i s (drop (i + 1) (sides ls us)) rs h (omega arith))
