-- What format, place and remove answer once their pool is opened is the outcome that the definition gives; what a sound pool leaves room for.
use mathlib.Core.Bool.{true, ◌&&◌, cond}
use mathlib.Core.List.{List, [], ◌∷◌, map}
use mathlib.Core.Path.{◌≡◌, refl, sym, ◌∙◌, subst}
use Prim.Native.Nat.{ℕ, zero, suc, ◌+◌, ◌-◌, ◌*◌, ◌<◌, ◌≤◌}
use native.Mathlib.Omega.{arith}
use native.Mathlib.Nat.{div-le_self}
use lib.Dec.{T, leb, ltb, ltb→lt}
use lib.ListN.{length, set, replicate}
use Rattle.std.specs.Prelude.{Result, Ok, Err, IsErrAnd}
use Rattle.std.proofs.lemmas.Result.{err_from_is_err_and}
use Rattle.kdb.specs.Lists.{sum, up_from}
use Rattle.kdb.specs.Pages.{recs_in, page, read_page, blank}
use Rattle.kdb.specs.Pool.{domains, root_at, levels_at, count_at, pages_in, good_length, view, Sound}
use Rattle.kdb.specs.Walk.{Spot, End, rootless, bad, absent, here, find_walk}
use Rattle.kdb.specs.Print.{sound}
use Rattle.kdb.specs.declared.Refusal.{Refusal}
use Rattle.kdb.specs.declared.Refusal.TheVariants.{NoFreePage}
use Rattle.kdb.specs.Calls.{L, place, remove, alone, working, gives, formatted, begins, outcome, Promise}
use Rattle.kdb.proofs.Tests.{and_r, of_true, cases}
use Rattle.kdb.proofs.Calls.{goes_on}
use Rattle.kdb.proofs.Pool.{sound_iff, length_iff, header_iff}
use Rattle.kdb.proofs.Format.{formatted_words}
use Rattle.kdb.proofs.Walk.{Named, Ends, find_named}
use Rattle.words.proofs.Laws.{long}
use Rattle.walk.specs.declared.Hit.{Hit}
use Rattle.walk.specs.Seek.{ended, sought_as}
use Rattle.split.specs.Part.{passed}
use Rattle.steps.specs.Place.{place_in}
use Rattle.steps.specs.Remove.{remove_in}
use Rattle.steps.proofs.Promise.{place_core, remove_core}
use Rattle.place.specs.Steps.{Topping}
use Rattle.opening.specs.Opens.{finished_as}

-- format: a pool of good length is cleared, and K and N are written
pub formats : (w : List ℕ) (n k : ℕ) → good_length L w ≡ true → n ≡ pages_in L w → set (set (replicate (length w) 0) 0 k) 1 n ≡ formatted w k
formats w n k h e =
    let g = long w h in
    let two : length w ≡ suc (suc (length w - 2)) = omega (arith, g.long, g.least) in
    rw (formatted_words w k (of_true (good_length L w) h), ← e) (go (length w) (length w - 2) two)
  where
    go : (l m : ℕ) → l ≡ suc (suc m) → set (set (replicate l 0) 0 k) 1 n ≡ k ∷ n ∷ replicate m 0
    go l m e = rw e

pub least_words : (w : List ℕ) → good_length L w ≡ true → 64 ≤ length w
least_words w h = let g = long w h in omega (arith, g.long, g.least)

pub most_pages : (w : List ℕ) → good_length L w ≡ true → pages_in L w ≤ 512
most_pages w h = (long w h).most

-- a sound pool counts few records, and a walk in it ends at a page and a slot that there are
sum_few : (f : ℕ → ℕ) → ((j : ℕ) → f j ≤ 28) → (m c : ℕ) → sum (map f (up_from m c)) ≤ 28 * m
sum_few f h zero c = omega arith
sum_few f h (suc m) c = omega (arith, h c, sum_few f h m (suc c))

module _ (w : List ℕ) (s : Sound L w) where
  few : pages_in L w ≤ 512
  few = ((length_iff L w).0 s.words).most

  slots_few : (j : ℕ) → length (recs_in (view L w j)) ≤ 28
  slots_few j = omega (arith, s.point_room j, div-le_self 28 (domains w + 1))

  pub count_few : count_at w + 1 < 4294967296
  count_few = omega (arith, s.counted, sum_few (λ j. length (recs_in (view L w j))) slots_few (pages_in L w - 1) 1, few)

  page_near : (j : ℕ) → 1 ≤ length (recs_in (view L w j)) → j < 4294967296
  page_near j h =
      cases (λ t. 1 ≤ length (recs_in (cond t (read_page (domains w) (page L w j)) blank)) → j < 4294967296) (leb 1 j && ltb j (pages_in L w))
      (λ t _. omega (arith, ltb→lt j (pages_in L w) (and_r (leb 1 j) (ltb j (pages_in L w)) t), few)) (λ _ q. absurd (omega arith)) h

  pub spot_near : (x : Spot) → Named L w x → (x.page < 4294967296) × (x.slot < 4294967296)
  spot_near x m = (page_near x.page (omega (arith, m.slot)), omega (arith, m.slot, slots_few x.page))

-- a root, levels and a count that leave room for one more
pub room : (w : List ℕ) → T (sound L w) → Topping (root_at w) (levels_at w) (count_at w)
room w h =
    let s = (sound_iff L (omega arith) w).0 h in
    let t = (header_iff L w).0 s.header in
    record { root = omega (arith, t.root, few w s); levels = omega (arith, t.levels, few w s); count = count_few w s }

-- the record that a search ended at
record Spotted (e : End) (h : Hit) : Type 0 where
  spot : Spot
  is : e ≡ here spot
  page : spot.page ≡ h.page
  slot : spot.slot ≡ h.slot
  loc : spot.rec.loc ≡ h.location

spotted : (r : ℕ) (e : End) (h : Hit) → Ok h ≡ ended r e → Spotted e h
spotted r rootless h q = absurd (cc)
spotted r bad h q = absurd (cc)
spotted r (absent j) h q = absurd (cc)
spotted r (here x) h q = record { spot = x; is = refl; page = cc; slot = cc; loc = cc }

-- remove on a pool that was opened, where the search ended at the record
module _ (w p : List ℕ) (h : Hit) (q : Ok h ≡ sought_as 0 (find_walk L w p)) where
  at : Spotted (find_walk L w p).end h
  at = spotted (0 + length (find_walk L w p).read) (find_walk L w p).end h q

  pub remove_near : T (sound L w) → (h.page < 4294967296) × (h.slot < 4294967296)
  remove_near t =
      let m : Ends (λ x. Named L w x × (x.rec.key ≡ p)) (here at.spot) = subst (Ends (λ x. Named L w x × (x.rec.key ≡ p))) at.is (find_named L w p) in
      let n = spot_near w ((sound_iff L (omega arith) w).0 t) at.spot m.0 in
      (omega (arith, n.0, at.page), omega (arith, n.1, at.slot))

  pub remove_done : T (begins w (remove p)) → gives (h.location ∷ []) (alone (remove_in L h.page h.slot w)) ≡ outcome w (remove p)
  remove_done b = simp (← at.page, ← at.slot, ← at.loc) (sym (remove_core w p at.spot b at.is)) ∙ sym (goes_on w (remove p) b)

-- place on a pool that was opened
module _ (w work p v : List ℕ) (l : ℕ) (b : T (begins w (place work p l))) where
  pub place_done : passed (Ok tt) v ≡ place_in L p l w → Promise w (place work p l) (gives [] (working w v))
  place_done g = record { kept = sym (rw (← g) at (place_core w work p l b)) ∙ sym (goes_on w (place work p l) b) }

  pub place_short : (a : Result (Unit {0}) Refusal) → passed (Err (record {})) v ≡ place_in L p l w → IsErrAnd a (λ r. r ≡ NoFreePage) → Promise w (place work p l) (finished_as a (working w v))
  place_short a g e =
      let q = err_from_is_err_and a e in
      record { kept = rw (q.1, q.2) (sym (rw (← g) at (place_core w work p l b)) ∙ sym (goes_on w (place work p l) b)) }
