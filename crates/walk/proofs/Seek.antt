-- The search's loops and levels against the definition's walk to a point.
use mathlib.Core.Bool.{Bool, true, false, ◌&&◌, cond}
use mathlib.Core.List.{List, [], ◌∷◌}
use mathlib.Core.Path.{◌≡◌, refl, sym, ap, ◌∙◌}
use Prim.Native.Nat.{ℕ, zero, suc, ◌+◌, ◌*◌, ◌<◌}
use native.Mathlib.Omega.{arith}
use native.Mathlib.Numerals.{add-one}
use lib.Dec.{eqb}
use lib.ListN.{length, get_or}
use Rattle.std.specs.Cmp.Lexicographic.{pointwise}
use Rattle.std.specs.Prelude.{Result, Ok, Err}
use Rattle.kdb.specs.Lists.{same}
use Rattle.kdb.specs.Box.{Key, within}
use Rattle.kdb.specs.Pages.{Ent}
use Rattle.kdb.specs.Pool.{domains, is_page}
use Rattle.kdb.specs.Walk.{End, here, ends, bad, spots, spot_of, into, seek}
use Rattle.kdb.specs.Calls.{L}
use Rattle.words.specs.declared.Kind.TheVariants.{Region, Point}
use Rattle.words.specs.Words.{word_at, point_location, keys_of, region_at, records_from}
use Rattle.words.proofs.Slots.{records_turn}
use Rattle.walk.specs.declared.Hit.{Hit}
use Rattle.walk.specs.declared.Missed.{Missed}
use Rattle.walk.specs.declared.Missed.TheVariants.{Bad}
use Rattle.walk.specs.declared.Stopped.{Stopped}
use Rattle.walk.specs.Pages.{region_words, point_words, entry_place, entries_from, reached}
use Rattle.walk.specs.Seek.{child_of, ended, sought_as}
use Rattle.walk.proofs.Pages.{regions_good, points_good, entries_seen, records_seen, entries_turn}

-- the equality of slices is the definition's
pub same_keys : (p q : List ℕ) → pointwise eqb p q ≡ same p q
same_keys [] [] = refl
same_keys [] (b ∷ q) = refl
same_keys (a ∷ p) [] = refl
same_keys (a ∷ p) (b ∷ q) = ap (λ r. eqb a b && r) (same_keys p q)

-- the entries from entry e on
module _ (k : ℕ) (w p : List ℕ) (j c e x : ℕ) (v : child_of p (entries_from k w j c e) ≡ x) where
  pub child_here : e < c → within (region_at k w (entry_place k j e)) p ≡ true → get_or w (entry_place k j e + 2 * k) 0 ≡ x
  child_here h t = rw t at (rw (entries_turn k w j c e h) at v)

  pub child_next : e < c → within (region_at k w (entry_place k j e)) p ≡ false → child_of p (entries_from k w j c (e + 1)) ≡ x
  child_next h t = rw t at (rw (entries_turn k w j c e h) at v)

-- the records from slot e on
module _ (k : ℕ) (w p : List ℕ) (j c e : ℕ) (x : End) (v : spot_of j p (spots j e (records_from k w j c e)) ≡ x) where
  pub record_here : e < c → same p (keys_of k w j e) ≡ true → here (record { page = j; slot = e; rec = record { key = keys_of k w j e; loc = point_location w k j e } }) ≡ x
  record_here h t = rw t at (rw (records_turn k w j c e h) at v)

  pub record_next : e < c → same p (keys_of k w j e) ≡ false → spot_of j p (spots j (e + 1) (records_from k w j c (e + 1))) ≡ x
  record_next h t = rw t at (rw (records_turn k w j c e h, ← add-one e) at v)

-- page 0 is no page, so a page with no entry for the point is as one whose entry names page 0
pub seek_zero : (w : List ℕ) (p : Key) (l : ℕ) → seek L w p l 0 ≡ ends [] bad
seek_zero w p zero = refl
seek_zero w p (suc l) = refl

into_child : (w : List ℕ) (p : Key) (l : ℕ) (es : List Ent) → into (seek L w p l) p es ≡ seek L w p l (child_of p es)
into_child w p l [] = sym (seek_zero w p l)
into_child w p l (e ∷ es) = go (within e.box p) (into_child w p l es)
  where
    go : (b : Bool) → into (seek L w p l) p es ≡ seek L w p l (child_of p es)
        → cond b (seek L w p l e.child) (into (seek L w p l) p es) ≡ seek L w p l (cond b e.child (child_of p es))
    go true i = refl
    go false i = i

-- one level, at page j, after r pages: what the walk makes of the page read
abbrev goes : Result ℕ Stopped → (ℕ → Result Hit Missed) → Result Hit Missed
goes (Ok n) h = h n
goes (Err e) h = Err (Bad e.reads)

module _ (w : List ℕ) (p : Key) (j r : ℕ) where
  abbrev found : ℕ → Result Hit Missed
  found n = ended n (spot_of j p (spots j 0 (records_from (domains w) w j (word_at w j 1) 0)))

  last : goes (reached w Point j r) found ≡ sought_as r (seek L w p 0 j)
  last = go (is_page L w j) refl (point_words w (domains w) j) refl
    where
      go : (is : Bool) → is_page L w j ≡ is → (ok : Bool) → point_words w (domains w) j ≡ ok → goes (reached w Point j r) found ≡ sought_as r (seek L w p 0 j)
      go false h ok t = rw h (let z : r ≡ r + 0 = omega arith in ap (λ (n : ℕ). ended n bad) z)
      go true h true t = rw (points_good w j h ∙ t, records_seen w j h t, t, h)
      go true h false t = rw (points_good w j h ∙ t, t, h)

  module _ (l : ℕ) where
    abbrev entered : ℕ → Result Hit Missed
    entered n = sought_as n (seek L w p l (child_of p (entries_from (domains w) w j (word_at w j 1) 0)))

    level : goes (reached w Region j r) entered ≡ sought_as r (seek L w p (suc l) j)
    level = go (is_page L w j) refl (region_words w (domains w) j) refl
      where
        go : (is : Bool) → is_page L w j ≡ is → (ok : Bool) → region_words w (domains w) j ≡ ok → goes (reached w Region j r) entered ≡ sought_as r (seek L w p (suc l) j)
        go false h ok t = rw h (let z : r ≡ r + 0 = omega arith in ap (λ (n : ℕ). ended n bad) z)
        go true h true t =
            let s = seek L w p l (child_of p (entries_from (domains w) w j (word_at w j 1) 0)) in
            let z : r + 1 + length s.read ≡ r + suc (length s.read) = omega arith in
            rw (regions_good w j h ∙ t, entries_seen w j h t, t, h, into_child w p l (entries_from (domains w) w j (word_at w j 1) 0)) (ap (λ (i : ℕ). ended i s.end) z)
        go true h false t = rw (regions_good w j h ∙ t, t, h)

    pub level_bad : (e : Stopped) → Err e ≡ reached w Region j r → Err (Bad e.reads) ≡ sought_as r (seek L w p (suc l) j)
    level_bad e q = rw (← q) at level

    -- the child is the page to go on from; where there is none the page is bad
    pub level_next : (n i : ℕ) → Ok n ≡ reached w Region j r → i ≡ child_of p (entries_from (domains w) w j (word_at w j 1) 0) → sought_as n (seek L w p l i) ≡ sought_as r (seek L w p (suc l) j)
    level_next n i q h = ap (λ (m : ℕ). sought_as n (seek L w p l m)) h ∙ (rw (← q) at level)

    pub level_lost : (n : ℕ) → Ok n ≡ reached w Region j r → 0 ≡ child_of p (entries_from (domains w) w j (word_at w j 1) 0) → Err (Bad n) ≡ sought_as r (seek L w p (suc l) j)
    level_lost n q h =
        let z : n ≡ n + 0 = omega arith in
        ap (λ (m : ℕ). ended m bad) z ∙ ap (sought_as n) (sym (seek_zero w p l)) ∙ level_next n 0 q h

  pub last_bad : (e : Stopped) → Err e ≡ reached w Point j r → Err (Bad e.reads) ≡ sought_as r (seek L w p 0 j)
  last_bad e q = rw (← q) at last

  pub last_good : (n : ℕ) → Ok n ≡ reached w Point j r → found n ≡ sought_as r (seek L w p 0 j)
  last_good n q = rw (← q) at last
