-- Regions that tile a region: the three ways of saying it agree, `tiles_counted`, `counted_tiles` and `tiles_iff`; and the regions of a
-- tiling on a side of a cut tile that part of its region, `counted_part`.
use mathlib.Core.Bool.{Bool, true, false, ◌&&◌, not, cond}
use mathlib.Core.List.{List, [], ◌∷◌}
use mathlib.Core.Logic.{◌↔◌, ◌⊎◌, inl, inr}
use mathlib.Core.Path.{◌≡◌, refl, sym, ap, ◌∙◌}
use Prim.Native.Nat.{ℕ, zero, suc, ◌+◌, ◌<◌, ◌≤◌, min, max}
use native.Mathlib.Omega.{arith}
use lib.Dec.{T, leb, ltb, leb→le, ltb→lt, lt→ltb, nleb→lt, nltb→le, T_not, not_T}
use lib.ListN.{length}
use Rattle.kdb.specs.Lists.{bit, tally, every, any_of, Each}
use Rattle.kdb.specs.Box.{Side, Box, Key, within, solid, key_at, lower_at, upper_at, left_part, right_part}
use Rattle.kdb.specs.Cut.{Lies, left, right, across, lies}
use Rattle.kdb.specs.Tiling.{Disjoint, Apart, Tiles, holders, Counted, share, apart, fronted, minus, covers, tiles}
use Rattle.kdb.proofs.Tests.{and_l, and_r, and_i, bool, bool_eq, of_bit, to_bit, no_bit, bit_most, and_false, and_swap, and_need, and_never}
use Rattle.kdb.proofs.Counts.{In, found, every_in, in_every, any_in, in_any, tally_and}
use Rattle.kdb.proofs.Box.{within_i, within_e}

-- the lowest key of a region
abbrev pub low : Box → Key
low [] = []
low (s ∷ b) = s.lo ∷ low b

pub low_in : (b : Box) → T (solid b) → T (within b (low b))
low_in [] t = tt
low_in (s ∷ b) t =
    let h : s.lo < s.hi = ltb→lt s.lo s.hi (and_l (ltb s.lo s.hi) _ t) in
    within_i s s.lo b (low b) (omega arith) h (low_in b (and_r (ltb s.lo s.hi) _ t))

pub solid_of : (b : Box) (p : Key) → T (within b p) → T (solid b)
solid_of [] p t = tt
solid_of (s ∷ b) [] t = absurd t
solid_of (s ∷ b) (x ∷ p) t =
    let i = within_e s x b p t in and_i (ltb s.lo s.hi) _ (lt→ltb s.lo s.hi (omega arith)) (solid_of b p i.2)

-- some region of the list holds the key
pub record Held (bs : List Box) (p : Key) : Type 0 where
  pub held : 1 ≤ holders bs p

here : (b : Box) (bs : List Box) (p : Key) → T (within b p) → Held (b ∷ bs) p
here b bs p t = record { held = omega (arith, to_bit (within b p) t) }

there : (b : Box) (bs : List Box) (p : Key) → Held bs p → Held (b ∷ bs) p
there b bs p h = record { held = omega arith }

which : (b : Box) (bs : List Box) (p : Key) → Held (b ∷ bs) p → T (within b p) ⊎ Held bs p
which b bs p h =
    bool (within b p) (λ t. inl t) (λ t. inr (record { held = omega (arith, h.held, no_bit (within b p) (T_not (within b p) t)) }))

by_in : (b : Box) (bs : List Box) (p : Key) → In b bs → T (within b p) → Held bs p
by_in b bs p m t = record { held = m.counted (λ c. within c p) t }

-- regions that are disjoint hold a key at most once, and the other way round
none_hold : (b : Box) (bs : List Box) (p : Key) → Each (Disjoint b) bs → T (within b p) → holders bs p ≡ 0
none_hold b [] p e t = refl
none_hold b (c ∷ bs) p e t = omega (arith, no_bit (within c p) (e.0 p t), none_hold b bs p e.1 t)

hold_none : (b : Box) (bs : List Box) → ((p : Key) → T (within b p) → holders bs p ≡ 0) → Each (Disjoint b) bs
hold_none b [] f = tt
hold_none b (c ∷ bs) f =
    (λ p t u. omega (arith, f p t, to_bit (within c p) u), hold_none b bs (λ p t. omega (arith, f p t)))

apart_most : (bs : List Box) (p : Key) → Apart bs → holders bs p ≤ 1
apart_most [] p a = omega arith
apart_most (b ∷ bs) p a =
    bool (within b p) (λ t. omega (arith, to_bit (within b p) t, none_hold b bs p a.0 t))
    (λ n. omega (arith, no_bit (within b p) (T_not (within b p) n), apart_most bs p a.1))

most_apart : (bs : List Box) → ((p : Key) → holders bs p ≤ 1) → Apart bs
most_apart [] f = tt
most_apart (b ∷ bs) f =
    (hold_none b bs (λ p t. omega (arith, f p, to_bit (within b p) t)), most_apart bs (λ p. omega (arith, f p)))

pub tiles_counted : (r : Box) (bs : List Box) → Tiles r bs → Counted r bs
tiles_counted r bs t =
    record {
      solids = t.solids;
      once = λ p.
          let m = apart_most bs p t.apart in
          let e = ap bit (t.together p) in
          bool (any_of (λ b. within b p) bs)
          (λ y. omega (arith, to_bit (any_of (λ b. within b p) bs) y, any_in (λ b. within b p) bs y))
          (λ n. let z : holders bs p < 1 = nleb→lt 1 (holders bs p) (not_T (leb 1 (holders bs p)) (λ y. T_not (any_of (λ b. within b p) bs) n (in_any (λ b. within b p) bs (leb→le 1 (holders bs p) y)))) in
          omega (arith, no_bit (any_of (λ b. within b p) bs) (T_not (any_of (λ b. within b p) bs) n)));
    }

pub counted_tiles : (r : Box) (bs : List Box) → Counted r bs → Tiles r bs
counted_tiles r bs c =
    record {
      solids = c.solids;
      apart = most_apart bs (λ p. omega (arith, c.once p, bit_most (within r p)));
      together = λ p. bool_eq (any_of (λ b. within b p) bs) (within r p)
          (λ y. of_bit (within r p) (omega (arith, c.once p, any_in (λ b. within b p) bs y)))
          (λ y. in_any (λ b. within b p) bs (omega (arith, c.once p, to_bit (within r p) y)));
    }

-- the pieces of b outside c hold the keys of b that c does not hold
fronted_held : (s : Side) (x : ℕ) (qs : List Box) (p : Key) → s.lo ≤ x → x < s.hi → Held qs p → Held (fronted s qs) (x ∷ p)
fronted_held s x [] p h k i = record { held = i.held }
fronted_held s x (q ∷ qs) p h k i =
    elim (which q qs p i) [ inl t ↦ here (s ∷ q) _ (x ∷ p) (within_i s x q p h k t) | inr j ↦ there (s ∷ q) _ (x ∷ p) (fronted_held s x qs p h k j) ]

held_fronted : (s : Side) (x : ℕ) (qs : List Box) (p : Key) → Held (fronted s qs) (x ∷ p) → (s.lo ≤ x) × (x < s.hi) × Held qs p
held_fronted s x [] p h = absurd (omega (arith, h.held))
held_fronted s x (q ∷ qs) p h =
    elim (which (s ∷ q) (fronted s qs) (x ∷ p) h) [
      | inl t ↦ let i = within_e s x q p t in (i.0, i.1, here q qs p i.2)
      | inr j ↦ let i = held_fronted s x qs p j in (i.0, i.1, there q qs p i.2)
    ]

fronted_nil : (s : Side) (qs : List Box) → Held (fronted s qs) [] → ⊥
fronted_nil s [] h = omega (arith, h.held)
fronted_nil s (q ∷ qs) h = elim (which (s ∷ q) (fronted s qs) [] h) [ inl t ↦ t | inr j ↦ fronted_nil s qs j ]

to_minus : (b c : Box) (p : Key) → T (within b p) → T (not (within c p)) → Held (minus b c) p
to_minus [] [] [] t n = absurd n
to_minus [] [] (x ∷ p) t n = absurd t
to_minus [] (z ∷ c) p t n = here [] [] p t
to_minus (s ∷ b) [] p t n = here (s ∷ b) [] p t
to_minus (s ∷ b) (z ∷ c) [] t n = absurd t
to_minus (s ∷ b) (z ∷ c) (x ∷ p) t n =
    let i = within_e s x b p t in
    let under : Side = record { lo = s.lo; hi = min s.hi z.lo } in
    let over : Side = record { lo = max s.lo z.hi; hi = s.hi } in
    let mid : Side = record { lo = max s.lo z.lo; hi = min s.hi z.hi } in
    bool (ltb x z.lo) (λ y. let k = ltb→lt x z.lo y in here _ _ (x ∷ p) (within_i under x b p i.0 (omega arith) i.2))
    (λ y. let k = nltb→le x z.lo y in
    bool (leb z.hi x) (λ g. let j = leb→le z.hi x g in there _ _ (x ∷ p) (here _ _ (x ∷ p) (within_i over x b p (omega arith) i.1 i.2)))
    (λ g. let j = nleb→lt z.hi x g in
    there _ _ (x ∷ p) (there _ _ (x ∷ p) (fronted_held mid x (minus b c) p (omega arith) (omega arith)
    (to_minus b c p i.2 (not_T (within c p) (λ w. T_not (within (z ∷ c) (x ∷ p)) n (within_i z x c p k j w))))))))

of_minus : (b c : Box) (p : Key) → Held (minus b c) p → T (within b p) × T (not (within c p))
of_minus [] [] p h = absurd (omega (arith, h.held))
of_minus [] (z ∷ c) [] h = (tt, tt)
of_minus [] (z ∷ c) (x ∷ p) h = absurd (omega (arith, h.held))
of_minus (s ∷ b) [] [] h = absurd (omega (arith, h.held))
of_minus (s ∷ b) [] (x ∷ p) h = elim (which (s ∷ b) [] (x ∷ p) h) [ inl t ↦ (t, tt) | inr j ↦ absurd (omega (arith, j.held)) ]
of_minus (s ∷ b) (z ∷ c) [] h =
    absurd (fronted_nil (record { lo = max s.lo z.lo; hi = min s.hi z.hi }) (minus b c) (record { held = omega (arith, h.held) }))
of_minus (s ∷ b) (z ∷ c) (x ∷ p) h =
    let under : Side = record { lo = s.lo; hi = min s.hi z.lo } in
    let over : Side = record { lo = max s.lo z.hi; hi = s.hi } in
    let mid : Side = record { lo = max s.lo z.lo; hi = min s.hi z.hi } in
    elim (which _ _ (x ∷ p) h) [
      | inl t ↦ let i = within_e under x b p t in
          (within_i s x b p i.0 (omega arith) i.2, not_T (within (z ∷ c) (x ∷ p)) (λ y. let j = within_e z x c p y in omega arith))
      | inr k ↦ elim (which _ _ (x ∷ p) k) [
        | inl t ↦ let i = within_e over x b p t in
            (within_i s x b p (omega arith) i.1 i.2, not_T (within (z ∷ c) (x ∷ p)) (λ y. let j = within_e z x c p y in omega arith))
        | inr j ↦ let i = held_fronted mid x (minus b c) p j in
            let m = of_minus b c p i.2 in
            (within_i s x b p (omega arith) (omega arith) m.0, not_T (within (z ∷ c) (x ∷ p)) (λ y. T_not (within c p) m.1 (within_e z x c p y).2))
      ]
    ]

pub covers_says : (cs : List Box) (b : Box) → T (covers cs b) → (p : Key) → T (within b p) → Held cs p
covers_says [] b t p h = absurd (T_not (solid b) t (solid_of b p h))
covers_says (c ∷ cs) b t p h =
    bool (within c p) (λ y. here c cs p y)
    (λ n. let i = found (λ q. within q p) (minus b c) (to_minus b c p h n).held in
    there c cs p (covers_says cs i.0 (every_in (covers cs) i.0 (minus b c) t i.2) p i.1))

pub says_covers : (cs : List Box) (b : Box) → ((p : Key) → T (within b p) → Held cs p) → T (covers cs b)
says_covers [] b f = not_T (solid b) (λ s. omega (arith, (f (low b) (low_in b s)).held))
says_covers (c ∷ cs) b f =
    in_every (covers cs) (minus b c) (λ q m. says_covers cs q (λ p t.
    let i = of_minus b c p (by_in q (minus b c) p m t) in
    elim (which c cs p (f p i.0)) [ inl y ↦ absurd (T_not (within c p) i.1 y) | inr j ↦ j ]))

-- two regions share a key
pub share_of : (b c : Box) (p : Key) → T (within b p) → T (within c p) → T (share b c)
share_of [] [] p h k = tt
share_of [] (z ∷ c) [] h k = k
share_of [] (z ∷ c) (x ∷ p) h k = h
share_of (s ∷ b) [] [] h k = h
share_of (s ∷ b) [] (x ∷ p) h k = k
share_of (s ∷ b) (z ∷ c) [] h k = absurd h
share_of (s ∷ b) (z ∷ c) (x ∷ p) h k =
    let i = within_e s x b p h in
    let j = within_e z x c p k in
    let m = max s.lo z.lo in
    and_i (ltb m (min s.hi z.hi)) _ (lt→ltb m (min s.hi z.hi) (omega arith)) (share_of b c p i.2 j.2)

at_share : (b c : Box) → T (share b c) → (p : Key) × T (within b p) × T (within c p)
at_share [] [] h = ([], tt, tt)
at_share [] (z ∷ c) h = absurd h
at_share (s ∷ b) [] h = absurd h
at_share (s ∷ b) (z ∷ c) h =
    let m = max s.lo z.lo in
    let u = min s.hi z.hi in
    let i = at_share b c (and_r (ltb m u) _ h) in
    let k : m < u = ltb→lt m u (and_l (ltb m u) _ h) in
    (m ∷ i.0, within_i s m b i.0 (omega arith) (omega arith) i.1, within_i z m c i.0 (omega arith) (omega arith) i.2)

apart_says : (bs : List Box) → T (apart bs) → Apart bs
apart_says [] t = tt
apart_says (b ∷ bs) t =
    (each bs (and_l (every (λ c. not (share b c)) bs) _ t), apart_says bs (and_r (every (λ c. not (share b c)) bs) _ t))
  where
    each : (cs : List Box) → T (every (λ c. not (share b c)) cs) → Each (Disjoint b) cs
    each [] t = tt
    each (c ∷ cs) t = (λ p h k. T_not (share b c) (and_l (not (share b c)) _ t) (share_of b c p h k), each cs (and_r (not (share b c)) _ t))

says_apart : (bs : List Box) → Apart bs → T (apart bs)
says_apart [] a = tt
says_apart (b ∷ bs) a = and_i (every (λ c. not (share b c)) bs) _ (each bs a.0) (says_apart bs a.1)
  where
    each : (cs : List Box) → Each (Disjoint b) cs → T (every (λ c. not (share b c)) cs)
    each [] e = tt
    each (c ∷ cs) e = and_i (not (share b c)) _ (not_T (share b c) (λ y. let i = at_share b c y in e.0 i.0 i.1 i.2)) (each cs e.1)

tiles_of : (r : Box) (bs : List Box) → T (tiles r bs) → Tiles r bs
tiles_of r bs t =
    let t₁ = and_l (every solid bs && apart bs && every (covers (r ∷ [])) bs) _ t in
    let t₂ = and_l (every solid bs && apart bs) _ t₁ in
    let inner = and_r (every solid bs && apart bs) _ t₁ in
    record {
      solids = and_l (every solid bs) _ t₂;
      apart = apart_says bs (and_r (every solid bs) _ t₂);
      together = λ p. bool_eq (any_of (λ b. within b p) bs) (within r p)
          (λ y. let i = found (λ b. within b p) bs (any_in (λ b. within b p) bs y) in
          of_bit (within r p) (omega (arith, (covers_says (r ∷ []) i.0 (every_in (covers (r ∷ [])) i.0 bs inner i.2) p i.1).held)))
          (λ y. in_any (λ b. within b p) bs (covers_says bs r (and_r (every solid bs && apart bs && every (covers (r ∷ [])) bs) _ t) p y).held);
    }

of_tiles : (r : Box) (bs : List Box) → Tiles r bs → T (tiles r bs)
of_tiles r bs t =
    let c = tiles_counted r bs t in
    and_i (every solid bs && apart bs && every (covers (r ∷ [])) bs) _
    (and_i (every solid bs && apart bs) _ (and_i (every solid bs) _ t.solids (says_apart bs t.apart))
    (in_every (covers (r ∷ [])) bs (λ b m. says_covers (r ∷ []) b (λ p y.
    here r [] p (of_bit (within r p) (omega (arith, c.once p, m.counted (λ d. within d p) y)))))))
    (says_covers bs r (λ p y. record { held = omega (arith, c.once p, to_bit (within r p) y) }))

pub tiles_iff : (r : Box) (bs : List Box) → T (tiles r bs) ↔ Tiles r bs
tiles_iff r bs = (tiles_of r bs, of_tiles r bs)

-- by cases on where a region lies
pub lies_case {ℓ} : (P : Lies → Type ℓ) (d x : ℕ) (b : Box) → (upper_at d b ≤ x → P left) → (x < upper_at d b → x ≤ lower_at d b → P right) → (x < upper_at d b → lower_at d b < x → P across) → P (lies d x b)
lies_case P d x b f g h =
    go (leb (upper_at d b) x) (leb x (lower_at d b)) (leb→le (upper_at d b) x) (nleb→lt (upper_at d b) x) (leb→le x (lower_at d b)) (nleb→lt x (lower_at d b))
  where
    go : (s t : Bool) → (T s → upper_at d b ≤ x) → (T (not s) → x < upper_at d b) → (T t → x ≤ lower_at d b) → (T (not t) → lower_at d b < x) → P (cond s left (cond t right across))
    go true t a b c e = f (a tt)
    go false true a b c e = g (b tt) (c tt)
    go false false a b c e = h (b tt) (e tt)

-- the cut lies strictly inside the region
pub record Inside (d x : ℕ) (b : Box) : Type 0 where
  pub low : lower_at d b < x
  pub high : x < upper_at d b

-- The two sides of a cut are said once: s is true on the left, false on the right.
-- the key is on that side
abbrev pub on : Bool → ℕ → ℕ → Key → Bool
on true d x p = ltb (key_at d p) x
on false d x p = not (ltb (key_at d p) x)

-- the region's part on that side
abbrev pub part : Bool → ℕ → ℕ → Box → Box
part true d x b = left_part d x b
part false d x b = right_part d x b

-- the regions on that side: those that lie there, and the parts of those that the cut crosses
abbrev pub keep : Bool → Lies → Box → Box → List Box → List Box
keep true left b c bs = b ∷ bs
keep true right b c bs = bs
keep true across b c bs = c ∷ bs
keep false left b c bs = bs
keep false right b c bs = b ∷ bs
keep false across b c bs = c ∷ bs

abbrev pub parts : Bool → ℕ → ℕ → List Box → List Box
parts s d x [] = []
parts s d x (b ∷ bs) = keep s (lies d x b) b (part s d x b) (parts s d x bs)

-- where a key of the region lies in a domain
pub low_key : (b : Box) (d : ℕ) (p : Key) → T (within b p) → lower_at d b ≤ key_at d p
low_key [] d p t = omega arith
low_key (s ∷ b) zero [] t = absurd t
low_key (s ∷ b) (suc d) [] t = absurd t
low_key (s ∷ b) zero (x ∷ p) t = (within_e s x b p t).0
low_key (s ∷ b) (suc d) (x ∷ p) t = low_key b d p (within_e s x b p t).2

pub high_key : (b : Box) (d x : ℕ) (p : Key) → T (within b p) → upper_at d b ≤ x → 0 < x → key_at d p < x
high_key [] d x [] t h k = k
high_key [] d x (y ∷ p) t h k = absurd t
high_key (s ∷ b) zero x [] t h k = absurd t
high_key (s ∷ b) (suc d) x [] t h k = absurd t
high_key (s ∷ b) zero x (y ∷ p) t h k = let i = within_e s y b p t in omega arith
high_key (s ∷ b) (suc d) x (y ∷ p) t h k = high_key b d x p (within_e s y b p t).2 h k

-- a key lies in a part exactly if it lies in the region and on that side
pub part_within : (s : Bool) (d x : ℕ) (b : Box) (p : Key) → Inside d x b → within (part s d x b) p ≡ on s d x p && within b p
part_within s d x [] p i = absurd (omega arith)
part_within true zero x (z ∷ b) [] i = sym (and_false (ltb 0 x))
part_within false zero x (z ∷ b) [] i = sym (and_false (not (ltb 0 x)))
part_within true (suc d) x (z ∷ b) [] i = sym (and_false (ltb 0 x))
part_within false (suc d) x (z ∷ b) [] i = sym (and_false (not (ltb 0 x)))
part_within true zero x (z ∷ b) (y ∷ p) i =
    let half : Side = record { lo = z.lo; hi = x } in
    bool_eq (within (half ∷ b) (y ∷ p)) (ltb y x && within (z ∷ b) (y ∷ p))
    (λ t. let j = within_e half y b p t in and_i (ltb y x) _ (lt→ltb y x j.1) (within_i z y b p j.0 (omega (arith, i.high)) j.2))
    (λ t. let j = within_e z y b p (and_r (ltb y x) _ t) in within_i half y b p j.0 (ltb→lt y x (and_l (ltb y x) _ t)) j.2)
part_within false zero x (z ∷ b) (y ∷ p) i =
    let half : Side = record { lo = x; hi = z.hi } in
    bool_eq (within (half ∷ b) (y ∷ p)) (not (ltb y x) && within (z ∷ b) (y ∷ p))
    (λ t. let j = within_e half y b p t in
    and_i (not (ltb y x)) _ (not_T (ltb y x) (λ w. omega (arith, ltb→lt y x w))) (within_i z y b p (omega (arith, i.low)) j.1 j.2))
    (λ t. let j = within_e z y b p (and_r (not (ltb y x)) _ t) in within_i half y b p (nltb→le y x (and_l (not (ltb y x)) _ t)) j.1 j.2)
part_within true (suc d) x (z ∷ b) (y ∷ p) i =
    rw (part_within true d x b p (record { low = i.low; high = i.high })) (and_swap (leb z.lo y && ltb y z.hi) (ltb (key_at d p) x) (within b p))
part_within false (suc d) x (z ∷ b) (y ∷ p) i =
    rw (part_within false d x b p (record { low = i.low; high = i.high })) (and_swap (leb z.lo y && ltb y z.hi) (not (ltb (key_at d p) x)) (within b p))

pub part_solid : (s : Bool) (d x : ℕ) (b : Box) → Inside d x b → T (solid b) → T (solid (part s d x b))
part_solid s d x [] i t = absurd (omega arith)
part_solid true zero x (z ∷ b) i t = and_i (ltb z.lo x) _ (lt→ltb z.lo x i.low) (and_r (ltb z.lo z.hi) _ t)
part_solid false zero x (z ∷ b) i t = and_i (ltb x z.hi) _ (lt→ltb x z.hi i.high) (and_r (ltb z.lo z.hi) _ t)
part_solid true (suc d) x (z ∷ b) i t =
    and_i (ltb z.lo z.hi) _ (and_l (ltb z.lo z.hi) _ t) (part_solid true d x b (record { low = i.low; high = i.high }) (and_r (ltb z.lo z.hi) _ t))
part_solid false (suc d) x (z ∷ b) i t =
    and_i (ltb z.lo z.hi) _ (and_l (ltb z.lo z.hi) _ t) (part_solid false d x b (record { low = i.low; high = i.high }) (and_r (ltb z.lo z.hi) _ t))

pub part_length : (s : Bool) (d x : ℕ) (b : Box) → length (part s d x b) ≡ length b
part_length true d x [] = refl
part_length false d x [] = refl
part_length true zero x (z ∷ b) = refl
part_length false zero x (z ∷ b) = refl
part_length true (suc d) x (z ∷ b) = ap suc (part_length true d x b)
part_length false (suc d) x (z ∷ b) = ap suc (part_length false d x b)

module _ (d x : ℕ) (pos : 0 < x) where
  -- a region that lies on one side has its keys there
  left_on : (b : Box) (p : Key) → upper_at d b ≤ x → T (within b p) → T (ltb (key_at d p) x)
  left_on b p h t = lt→ltb (key_at d p) x (high_key b d x p t h pos)

  right_on : (b : Box) (p : Key) → x ≤ lower_at d b → T (within b p) → T (not (ltb (key_at d p) x))
  right_on b p h t = not_T (ltb (key_at d p) x) (λ y. omega (arith, ltb→lt (key_at d p) x y, low_key b d p t))

  keep_holders : (s : Bool) (b : Box) (bs : List Box) (p : Key) → holders (keep s (lies d x b) b (part s d x b) bs) p ≡ bit (on s d x p && within b p) + holders bs p
  keep_holders true b bs p =
      lies_case (λ l. holders (keep true l b (left_part d x b) bs) p ≡ bit (ltb (key_at d p) x && within b p) + holders bs p) d x b
      (λ h. rw (and_need (ltb (key_at d p) x) (within b p) (left_on b p h)))
      (λ _ h. rw (and_never (ltb (key_at d p) x) (within b p) (right_on b p h)) (omega arith))
      (λ h l. rw (part_within true d x b p (record { low = l; high = h })))
  keep_holders false b bs p =
      lies_case (λ l. holders (keep false l b (right_part d x b) bs) p ≡ bit (not (ltb (key_at d p) x) && within b p) + holders bs p) d x b
      (λ h. rw (and_never (not (ltb (key_at d p) x)) (within b p) (λ t. not_T (not (ltb (key_at d p) x)) (λ n. T_not (ltb (key_at d p) x) n (left_on b p h t)))) (omega arith))
      (λ _ h. rw (and_need (not (ltb (key_at d p) x)) (within b p) (right_on b p h)))
      (λ h l. rw (part_within false d x b p (record { low = l; high = h })))

  parts_holders : (s : Bool) (bs : List Box) (p : Key) → holders (parts s d x bs) p ≡ tally (λ b. on s d x p && within b p) bs
  parts_holders s [] p = refl
  parts_holders s (b ∷ bs) p = keep_holders s b (parts s d x bs) p ∙ ap (λ n. bit (on s d x p && within b p) + n) (parts_holders s bs p)

  parts_solid : (s : Bool) (bs : List Box) → T (every solid bs) → T (every solid (parts s d x bs))
  parts_solid s [] t = tt
  parts_solid s (b ∷ bs) t = go s (and_l (solid b) _ t) (parts_solid s bs (and_r (solid b) _ t))
    where
      go : (s : Bool) → T (solid b) → T (every solid (parts s d x bs)) → T (every solid (keep s (lies d x b) b (part s d x b) (parts s d x bs)))
      go true y i =
          lies_case (λ l. T (every solid (keep true l b (left_part d x b) (parts true d x bs)))) d x b (λ _. and_i (solid b) _ y i) (λ _ _. i)
          (λ h l. and_i (solid (left_part d x b)) _ (part_solid true d x b (record { low = l; high = h }) y) i)
      go false y i =
          lies_case (λ l. T (every solid (keep false l b (right_part d x b) (parts false d x bs)))) d x b (λ _. i) (λ _ _. and_i (solid b) _ y i)
          (λ h l. and_i (solid (right_part d x b)) _ (part_solid false d x b (record { low = l; high = h }) y) i)

-- the regions of a tiling on a side of a cut tile that part of its region
pub counted_part : (s : Bool) (d x : ℕ) (r : Box) (bs : List Box) → Inside d x r → Counted r bs → Counted (part s d x r) (parts s d x bs)
counted_part s d x r bs i c =
    let pos : 0 < x = omega (arith, i.low) in
    record {
      solids = parts_solid d x pos s bs c.solids;
      once = λ p. parts_holders d x pos s bs p ∙ (go (on s d x p) p ∙ ap bit (sym (part_within s d x r p i)));
    }
  where
    go : (o : Bool) (p : Key) → tally (λ b. o && within b p) bs ≡ bit (o && within r p)
    go true p = c.once p
    go false p = tally_and false (λ b. within b p) bs

pub tiles_part : (s : Bool) (d x : ℕ) (r : Box) (bs : List Box) → Inside d x r → Tiles r bs → Tiles (part s d x r) (parts s d x bs)
tiles_part s d x r bs i t = counted_tiles (part s d x r) (parts s d x bs) (counted_part s d x r bs i (tiles_counted r bs t))

-- a region cut in two is tiled by its parts
pub two_hold : (d x : ℕ) (b : Box) → Inside d x b → (p : Key) → bit (within (left_part d x b) p) + bit (within (right_part d x b) p) ≡ bit (within b p)
two_hold d x b i p =
    rw (part_within true d x b p i, part_within false d x b p i) (go (ltb (key_at d p) x))
  where
    go : (o : Bool) → bit (o && within b p) + bit (not o && within b p) ≡ bit (within b p)
    go true = omega arith
    go false = omega arith

pub two_tile : (d x : ℕ) (b : Box) → Inside d x b → T (solid b) → Tiles b (left_part d x b ∷ right_part d x b ∷ [])
two_tile d x b i t =
    counted_tiles b (left_part d x b ∷ right_part d x b ∷ [])
    (record {
      solids = and_i (solid (left_part d x b)) _ (part_solid true d x b i t) (and_i (solid (right_part d x b)) _ (part_solid false d x b i t) tt);
      once = λ p. omega (arith, two_hold d x b i p);
    })
