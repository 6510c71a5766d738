-- Where an overfull page is cut, by counting: sorting and taking a rank is counting the smaller and the equal ones, for every list of numbers
-- and every rank below its length.
use mathlib.Core.Bool.{Bool, true, false, not, cond}
use mathlib.Core.List.{List, [], ◌∷◌, map}
use mathlib.Core.Option.{Option, none, some}
use mathlib.Core.Path.{◌≡◌, refl, sym, ap, ◌∙◌, subst}
use Prim.Native.Nat.{ℕ, zero, suc, ◌+◌, ◌/◌, ◌%◌, ◌≤◌, ◌<◌}
use native.Mathlib.Omega.{arith}
use native.Mathlib.Nat.{mod-lt, mod-eq_of_lt, mod-add-mod}
use lib.Dec.{T, leb, ltb, eqb, leb→le, ltb→lt, lt→ltb, nleb→lt, nltb→le, eqb→eq, eqb_refl, T_not}
use lib.ListN.{length, get_or}
use Rattle.kdb.specs.Lists.{bit, tally, many}
use Rattle.kdb.specs.Box.{key_at, lower_at}
use Rattle.kdb.specs.Cut.{insert_sorted, sort, first_above, cut_in, cut_of, Cut, cut, choose}
use Rattle.kdb.specs.Demands.{Ranks, CutsAt, Alike, CutFor, ByTheCuts}
use Rattle.kdb.proofs.Tests.{bool, cases, to_bit, no_bit}
use Rattle.kdb.proofs.Counts.{get_or_in, tally_imp}
use Rattle.kdb.proofs.Cut.{tally_insert, tally_sort, none_below, below_none, Least, head_least, first_is, cut_in_is, cut_of_none}

-- in order: nothing behind a number is smaller
abbrev Sorted : List ℕ → Type 0
Sorted [] = Unit {0}
Sorted (a ∷ l) = (tally (λ x. ltb x a) l ≡ 0) × Sorted l

insert_sorted_lem : (a : ℕ) (l : List ℕ) → Sorted l → Sorted (insert_sorted a l)
insert_sorted_lem a [] h = (refl, tt)
insert_sorted_lem a (b ∷ l) h =
    let i = insert_sorted_lem a l h.1 in
    cases (λ t. Sorted (cond t (a ∷ b ∷ l) (b ∷ insert_sorted a l))) (leb a b)
    (λ t. let q = leb→le a b t in
    (omega (arith, none_below a b q, tally_imp (λ x. ltb x a) (λ x. ltb x b) (λ x y. lt→ltb x b (omega (arith, ltb→lt x a y))) l, h.0), h))
    (λ t. (omega (arith, h.0, tally_insert (λ x. ltb x b) a l, none_below b a (omega (arith, nleb→lt a b t))), i))

sort_sorted : (l : List ℕ) → Sorted (sort l)
sort_sorted [] = tt
sort_sorted (a ∷ l) = insert_sorted_lem a (sort l) (sort_sorted l)

length_sort : (l : List ℕ) → length (sort l) ≡ length l
length_sort l = sym (tally_all (sort l)) ∙ (tally_sort (λ a. true) l ∙ tally_all l)
  where
    tally_all : (l : List ℕ) → tally (λ a. true) l ≡ length l
    tally_all [] = refl
    tally_all (a ∷ l) = omega (arith, tally_all l)

-- a number that is not smaller than a is greater, or is a
one_of : (a v : ℕ) → a ≤ v → bit (ltb a v) + bit (eqb v a) ≡ 1
one_of a v h =
    bool (ltb a v)
    (λ t. let l = ltb→lt a v t in omega (arith, to_bit (ltb a v) t, no_bit (eqb v a) (λ e. omega (arith, eqb→eq v a e))))
    (λ t. let e : v ≡ a = omega (arith, nltb→le a v t) in omega (arith, no_bit (ltb a v) (T_not (ltb a v) t), to_bit (eqb v a) (subst (λ z. T (eqb z a)) (sym e) (eqb_refl a))))

-- the number at a place of a sorted list has that rank
ranked : (l : List ℕ) (r : ℕ) → Sorted l → r < length l → Ranks l r (get_or l r 0)
ranked [] r s h = absurd (omega arith)
ranked (a ∷ l) zero s h =
    record { smaller = omega (arith, none_below a a (omega arith), s.0); equal = omega (arith, to_bit (eqb a a) (eqb_refl a)) }
ranked (a ∷ l) (suc r) s h =
    let v = get_or l r 0 in
    let i = ranked l r s.1 (omega arith) in
    let least : a ≤ v = bool (ltb v a) (λ t. absurd (omega (arith, s.0, get_or_in (λ x. ltb x a) l r (omega arith) t))) (λ t. nltb→le v a t) in
    let o = one_of a v least in
    record { smaller = omega (arith, i.smaller); equal = omega (arith, i.equal) }

-- sorting and taking a rank is counting
pub sort_ranks : (l : List ℕ) (r : ℕ) → r < length l → Ranks l r (get_or (sort l) r 0)
sort_ranks l r h =
    let v = get_or (sort l) r 0 in
    let i = ranked (sort l) r (sort_sorted l) (omega (arith, length_sort l)) in
    record { smaller = omega (arith, i.smaller, tally_sort (λ a. ltb a v) l); equal = omega (arith, i.equal, tally_sort (λ a. ltb a v) l, tally_sort (eqb v) l) }

-- the first that is greater than the least: as many are smaller as are the least
next_above : (s x : ℕ) (l : List ℕ) → Sorted l → tally (λ a. ltb a s) l ≡ 0 → first_above s l ≡ some x → tally (λ a. ltb a x) l ≡ many s l
next_above s x [] h n e = refl
next_above s x (a ∷ l) h n e =
    go (ltb s a) refl e
    (λ q. next_above s x l h.1 (omega arith) q)
  where
    go : (t : Bool) → ltb s a ≡ t → cond t (some a) (first_above s l) ≡ some x → (first_above s l ≡ some x → tally (λ a. ltb a x) l ≡ many s l)
        → tally (λ a. ltb a x) (a ∷ l) ≡ many s (a ∷ l)
    go true q e r =
        let i : a ≡ x = cc in
        let lt = ltb→lt s a (subst T (sym q) tt) in
        let none_left : many s l ≡ 0 = omega (arith, h.0, tally_imp (eqb s) (λ y. ltb y a) (λ y t. lt→ltb y a (omega (arith, eqb→eq s y t))) l) in
        subst (λ z. tally (λ y. ltb y z) (a ∷ l) ≡ many s (a ∷ l)) i
        (omega (arith, none_below a a (omega arith), h.0, no_bit (eqb s a) (λ t. omega (arith, eqb→eq s a t))))
    go false q e r =
        let ge : a ≤ s = nltb→le s a (subst (λ z. T (not z)) (sym q) tt) in
        let same : s ≡ a = omega (arith, below_none s a (omega arith)) in
        let above = first_is s x l e in
        omega (arith, r e, to_bit (eqb s a) (subst (λ z. T (eqb s z)) same (eqb_refl s)), to_bit (ltb a x) (lt→ltb a x (omega (arith, above.0))))

-- the cut of a sorted list
sorted_cut : (l : List ℕ) (x : ℕ) → Sorted l → Least l → cut_in l ≡ some x → CutsAt l x
sorted_cut [] x s h e = let z : ◌≡◌ {A = ℕ} 0 1 = cc in absurd (omega arith)
sorted_cut (b ∷ l) x s h e = go (eqb m b) refl e
  where
    m : ℕ
    m = get_or (b ∷ l) (length (b ∷ l) / 2) 0

    go : (t : Bool) → eqb m b ≡ t → cond t (first_above b (b ∷ l)) (some m) ≡ some x → CutsAt (b ∷ l) x
    go true q c =
        let i : m ≡ b = eqb→eq m b (subst T (sym q) tt) in
        let n = next_above b x (b ∷ l) s h c in
        let f = first_is b x (b ∷ l) c in
        record {
          ranked = m;
          middle = ranked (b ∷ l) (length (b ∷ l) / 2) s (omega arith);
          taken = λ y. absurd (let z : 1 ≤ tally (λ a. ltb a b) (b ∷ l) = subst (λ v. 1 ≤ tally (λ a. ltb a v) (b ∷ l)) i y in omega (arith, h));
          next = λ _. subst (λ v. Ranks (b ∷ l) (many v (b ∷ l)) x) (sym i) (record { smaller = omega (arith, n); equal = omega (arith, n, f.1) });
        }
    go false q c =
        let i : m ≡ x = cc in
        let k = cut_in_is (b ∷ l) x h e in
        record {
          ranked = m;
          middle = ranked (b ∷ l) (length (b ∷ l) / 2) s (omega arith);
          taken = λ y. sym i;
          next = λ y. absurd (let z : tally (λ a. ltb a x) (b ∷ l) ≡ 0 = subst (λ v. tally (λ a. ltb a v) (b ∷ l) ≡ 0) i y in omega (arith, k.above));
        }

pub cut_at : (l : List ℕ) (x : ℕ) → cut_of l ≡ some x → CutsAt l x
cut_at l x e =
    let c = sorted_cut (sort l) x (sort_sorted l) (head_least l) e in
    let v = c.ranked in
    let below = tally_sort (λ a. ltb a v) l in
    let long : length (sort l) / 2 ≡ length l / 2 = ap (λ n. n / 2) (length_sort l) in
    record {
      ranked = v;
      middle = record { smaller = omega (arith, c.middle.smaller, long, below); equal = omega (arith, c.middle.equal, long, below, tally_sort (eqb v) l) };
      taken = λ y. c.taken (omega (arith, y, below));
      next = λ y.
          let n = c.next (omega (arith, y, below)) in
          record { smaller = omega (arith, n.smaller, tally_sort (λ a. ltb a x) l, tally_sort (eqb v) l); equal = omega (arith, n.equal, tally_sort (λ a. ltb a x) l, tally_sort (eqb x) l, tally_sort (eqb v) l) };
    }

-- no cut: no number is smaller or greater than another
three_ways : (s : ℕ) (l : List ℕ) → tally (λ a. ltb a s) l + many s l + tally (λ a. ltb s a) l ≡ length l
three_ways s [] = refl
three_ways s (a ∷ l) = omega (arith, three_ways s l, go)
  where
    go : bit (ltb a s) + bit (eqb s a) + bit (ltb s a) ≡ 1
    go = bool (leb a s) (λ t. omega (arith, one_of a s (leb→le a s t), none_below a s (leb→le a s t)))
        (λ t. let l = nleb→lt a s t in omega (arith, to_bit (ltb s a) (lt→ltb s a l), none_below s a (omega arith), no_bit (eqb s a) (λ e. omega (arith, eqb→eq s a e))))

alike : (l : List ℕ) → cut_of l ≡ none → Alike l
alike l e = let n = cut_of_none l e in (n.0, omega (arith, three_ways n.0 l, n.1, n.2))

-- the first domain that offers a cut
choose_for : (n k e : ℕ) (f : ℕ → List ℕ) (d x : ℕ) → e < k → choose n k e f ≡ cut d x
    → (i : ℕ) × (i < n) × (d ≡ (e + i) % k) × CutsAt (f d) x × ((j : ℕ) → j < i → Alike (f ((e + j) % k)))
choose_for zero k e f d x h c = let z : ◌≡◌ {A = ℕ} 0 1 = cc in absurd (omega arith)
choose_for (suc n) k e f d x h c = go (cut_of (f e)) refl (choose_for n k ((e + 1) % k) f d x (mod-lt (e + 1) (omega arith))) c
  where
    here : (e + 0) % k ≡ e
    here = ap (λ m. m % k) (omega arith) ∙ mod-eq_of_lt h

    onward : (j : ℕ) → ((e + 1) % k + j) % k ≡ (e + suc j) % k
    onward j = mod-add-mod (e + 1) k j ∙ ap (λ m. m % k) (omega arith)

    earlier : (i : ℕ) → cut_of (f e) ≡ none → ((j : ℕ) → j < i → Alike (f (((e + 1) % k + j) % k))) → (j : ℕ) → j < suc i → Alike (f ((e + j) % k))
    earlier i q r zero l = subst (λ m. Alike (f m)) (sym here) (alike (f e) q)
    earlier i q r (suc j) l = subst (λ m. Alike (f m)) (onward j) (r j (omega arith))

    go : (o : Option ℕ) → cut_of (f e) ≡ o
        → (choose n k ((e + 1) % k) f ≡ cut d x → (i : ℕ) × (i < n) × (d ≡ ((e + 1) % k + i) % k) × CutsAt (f d) x × ((j : ℕ) → j < i → Alike (f (((e + 1) % k + j) % k))))
        → elim o as (λ _. Cut) [ none ↦ choose n k ((e + 1) % k) f | some y ↦ cut e y ] ≡ cut d x
        → (i : ℕ) × (i < suc n) × (d ≡ (e + i) % k) × CutsAt (f d) x × ((j : ℕ) → j < i → Alike (f ((e + j) % k)))
    go none q r c = let i = r c in (suc i.0, omega (arith, i.1), i.2 ∙ onward i.0, i.3, earlier i.0 q i.4)
    go (some y) q r c =
        let a : e ≡ d = cc in
        let b : y ≡ x = cc in
        (0, omega arith, sym a ∙ sym here, subst (λ z. CutsAt (f z) x) a (cut_at (f e) x (q ∙ ap some b)), λ j l. absurd (omega arith))

cut_for : (k e : ℕ) (f : ℕ → List ℕ) (d x : ℕ) → e < k → choose k k e f ≡ cut d x → CutFor k e f d x
cut_for k e f d x h c = let i = choose_for k k e f d x h c in record { steps = i.0; few = i.1; domain = i.2; cuts = i.3; before = i.4 }

pub by_the_cuts : (k e : ℕ) → e < k → ByTheCuts k e
by_the_cuts k e h =
    record {
      points = λ rs d x c. cut_for k e (λ c. map (λ r. key_at c r.key) rs) d x h c;
      regions = λ bs d x c. cut_for k e (λ c. map (lower_at c) bs) d x h c;
    }
