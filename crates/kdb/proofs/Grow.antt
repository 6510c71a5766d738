-- Placing. `grown` is what a page becomes and how many pages that claims; `grow_ok` shows that `grow` gives it where the free pages suffice.
-- So `placed_formed`, `placed_none_iff` and `formed_fair` hold of every well-formed state.
use mathlib.Core.Bool.{Bool, true, false, not}
use mathlib.Core.List.{List, [], ◌∷◌, ◌++◌}
use mathlib.Core.Logic.{◌↔◌}
use mathlib.Core.Option.{none, some}
use mathlib.Core.Path.{◌≡◌, refl, sym, ap, ◌∙◌, subst}
use Prim.Native.Nat.{ℕ, zero, suc, ◌+◌, ◌-◌, ◌<◌, ◌≤◌}
use native.Mathlib.Omega.{arith}
use lib.Dec.{T, leb, eqb, leb→le, le→leb, nleb→lt, T_not, not_T, eqb→eq}
use lib.ListN.{length, take, drop, get_or, length-append, length-drop, drop_of_length-le}
use lib.Seq.{take-add, take-suc, drop-drop, drop-cons}
use Rattle.kdb.specs.Lists.{bit, only, tally, every, many, same, up_from}
use Rattle.kdb.specs.Box.{Box, Key, whole, within, solid, left_part, right_part}
use Rattle.kdb.specs.Tree.{Rec, Tree, leaf, node, Forest, fnil, fcons, State, boxes, levels, pages, pages_f, records, records_f, pages_of, records_of}
use Rattle.kdb.specs.Cut.{Cut, nowhere, cut, cut_points, cut_regions}
use Rattle.kdb.specs.Tiling.{Tiles, holders}
use Rattle.kdb.specs.Pages.{regions_per, points_per}
use Rattle.kdb.specs.Shape.{differ, RegionPage, Shaped, ShapedF, ShapedS, Numbered, WellFormed}
use Rattle.kdb.specs.Steps.{free_of, after_chosen, Up, failed, fits, parts, UpF, failed_f, kept, wider, size, join_f, parted, enter, behind, chosen, settle_node, grow, grow_f, new_root, topped, first, placed}
use Rattle.kdb.proofs.Tests.{and_l, and_r, and_i, bool, by_case, is_true, is_false, to_bit, no_bit}
use Rattle.kdb.proofs.Lists.{every_append, same_eq, same_refl}
use Rattle.kdb.proofs.Counts.{tally_append, In, in_head, in_tail, every_in, tally_only, tally_take, many_only, up_from_in, up_from_once}
use Rattle.kdb.proofs.Tiling
use Rattle.kdb.proofs.Tiling.{tiles_counted, counted_tiles, Inside, on, part, part_solid, two_hold, two_tile}
use Rattle.kdb.proofs.Box.{within_length}
use Rattle.kdb.proofs.Cut.{PointsCut, points_cut, points_rooms, points_inside, RegionsCut, regions_cut, regions_rooms, entry_length}
use Rattle.kdb.proofs.Split.{chosen_below, need, half, half_f, split_some, split_none, half_records, half_pages, half_boxes, point_half, region_half, shaped_f_half, shaped_levels}
use Rattle.kdb.proofs.Fair.{FairPoints, FairRegions, FairWider, Fair, FairF}

-- what a page becomes, with the pages claimed: one page; two pages, cut along a key of a domain
pub data Out : Type 0 where
  one : Tree → ℕ → Out
  two : ℕ → ℕ → Tree → Tree → ℕ → Out

-- what a region page's entries become: as many; one more
pub data OutF : Type 0 where
  as_many : Forest → ℕ → OutF
  one_more : Forest → ℕ → OutF

abbrev pub used : Out → ℕ
used (one t u) = u
used (two d x l r u) = u

abbrev pub used_f : OutF → ℕ
used_f (as_many f u) = u
used_f (one_more f u) = u

abbrev pub forest : OutF → Forest
forest (as_many f u) = f
forest (one_more f u) = f

abbrev pub extra : OutF → ℕ
extra (as_many f u) = 0
extra (one_more f u) = 1

one_most : (o : OutF) → extra o ≤ 1
one_most (as_many f u) = omega arith
one_most (one_more f u) = omega arith

abbrev pub entered : Box → Out → Forest → OutF
entered b (one t u) f = as_many (fcons b t f) u
entered b (two d x l r u) f = one_more (fcons (left_part d x b) l (join_f f (fcons (right_part d x b) r fnil))) u

abbrev pub passed : Box → Tree → OutF → OutF
passed b t (as_many f u) = as_many (fcons b t f) u
passed b t (one_more f u) = one_more (fcons b t f) u

-- k domains, R regions and P points a page
module _ (k R P : ℕ) where
  -- a page that has claimed u pages so far, along its cut
  abbrev pub broken : Cut → Tree → ℕ → List ℕ → Out
  broken nowhere t u free = one t u
  broken (cut d x) t u free =
      two d x (half k d x t true (after_chosen k d) (drop u free)) (half k d x t false (after_chosen k d) (drop u free)) (u + need d x t)

  abbrev pub settled_leaf : ℕ → ℕ → List Rec → List ℕ → Out
  settled_leaf p e rs free = elim (leb (length rs) P) [ true ↦ one (leaf p e rs) 0 | false ↦ broken (cut_points k e rs) (leaf p e rs) 0 free ]

  abbrev pub settled_node : ℕ → ℕ → OutF → List ℕ → Out
  settled_node p e (as_many f u) free = one (node p e f) u
  settled_node p e (one_more f u) free = elim (leb (size f) R) [ true ↦ one (node p e f) u | false ↦ broken (cut_regions k e (boxes f)) (node p e f) u free ]

  abbrev mutual
    pub grown : Tree → Rec → List ℕ → Out
    grown (leaf p e rs) q free = settled_leaf p e (rs ++ (q ∷ [])) free
    grown (node p e f) q free = settled_node p e (grown_f f q free) free

    pub grown_f : Forest → Rec → List ℕ → OutF
    grown_f fnil q free = as_many fnil 0
    grown_f (fcons b t f) q free = elim (within b q.key) [ true ↦ entered b (grown t q free) f | false ↦ passed b t (grown_f f q free) ]

-- as a step shows it: failed where the free pages do not suffice
abbrev pub show_by : Bool → Out → List ℕ → Up
show_by false o free = failed
show_by true (one t u) free = fits t (drop u free)
show_by true (two d x l r u) free = parts d x (record { lt = l; rt = r; free = drop u free })

abbrev pub shown : Out → List ℕ → Up
shown o free = show_by (leb (used o) (length free)) o free

abbrev pub show_by_f : Bool → OutF → List ℕ → UpF
show_by_f false o free = failed_f
show_by_f true (as_many f u) free = kept f (drop u free)
show_by_f true (one_more f u) free = wider f (drop u free)

abbrev pub shown_f : OutF → List ℕ → UpF
shown_f o free = show_by_f (leb (used_f o) (length free)) o free

pub shown_enough : (o : Out) (free : List ℕ) → used o ≤ length free → shown o free ≡ show_by true o free
shown_enough o free h = ap (λ c. show_by c o free) (is_true (leb (used o) (length free)) (le→leb (used o) (length free) h))

pub shown_short : (o : Out) (free : List ℕ) → length free < used o → shown o free ≡ failed
shown_short o free h = ap (λ c. show_by c o free) (is_false (leb (used o) (length free)) (not_T (leb (used o) (length free)) (λ t. omega (arith, leb→le (used o) (length free) t))))

pub shown_f_enough : (o : OutF) (free : List ℕ) → used_f o ≤ length free → shown_f o free ≡ show_by_f true o free
shown_f_enough o free h = ap (λ c. show_by_f c o free) (is_true (leb (used_f o) (length free)) (le→leb (used_f o) (length free) h))

pub shown_f_short : (o : OutF) (free : List ℕ) → length free < used_f o → shown_f o free ≡ failed_f
shown_f_short o free h = ap (λ c. show_by_f c o free) (is_false (leb (used_f o) (length free)) (not_T (leb (used_f o) (length free)) (λ t. omega (arith, leb→le (used_f o) (length free) t))))

-- what is counted in a page that has become one or two
abbrev pub records_in : (Rec → Bool) → Out → ℕ
records_in g (one t u) = tally g (records t)
records_in g (two d x l r u) = tally g (records l) + tally g (records r)

abbrev pub pages_in : (ℕ → Bool) → Out → ℕ
pages_in g (one t u) = tally g (pages t)
pages_in g (two d x l r u) = tally g (pages l) + tally g (pages r)

abbrev pub ShapedOut : ℕ → ℕ → ℕ → Out → ℕ → Box → Type 0
ShapedOut k R P (one t u) n b = Shaped k R P t n b
ShapedOut k R P (two d x l r u) n b = Inside d x b × Shaped k R P l n (left_part d x b) × Shaped k R P r n (right_part d x b)

-- the tree t with the record q has become o: well formed, the record added, and of the free pages the first ones claimed
pub record Became (k R P : ℕ) (t : Tree) (q : Rec) (free : List ℕ) (n : ℕ) (b : Box) (o : Out) : Type 0 where
  pub shaped : ShapedOut k R P o n b
  pub held : (g : Rec → Bool) → records_in g o ≡ tally g (records t) + bit (g q)
  pub paged : (g : ℕ → Bool) → used o ≤ length free → pages_in g o ≡ tally g (pages t) + tally g (take (used o) free)

-- the same of entries f that have become g, u pages claimed, a number of entries more: they tile what they tiled
pub record Stead (k R P : ℕ) (f : Forest) (q : Rec) (free : List ℕ) (n : ℕ) (g : Forest) (u more : ℕ) : Type 0 where
  pub shaped : ShapedF k R P g n
  pub hold : (p : Key) → holders (boxes g) p ≡ holders (boxes f) p
  pub firm : T (every solid (boxes f)) → T (every solid (boxes g))
  pub wide : length (boxes g) ≡ length (boxes f) + more
  pub held : (t : Rec → Bool) → tally t (records_f g) ≡ tally t (records_f f) + bit (t q)
  pub paged : (t : ℕ → Bool) → u ≤ length free → tally t (pages_f g) ≡ tally t (pages_f f) + tally t (take u free)

abbrev pub BecameF : ℕ → ℕ → ℕ → Forest → Rec → List ℕ → ℕ → OutF → Type 0
BecameF k R P f q free n o = Stead k R P f q free n (forest o) (used_f o) (extra o)

pub record Grown (k R P : ℕ) (t : Tree) (q : Rec) (free : List ℕ) (n : ℕ) (b : Box) : Type 0 where
  pub fair : Fair k R P t q free
  pub made : grow k R P t q free ≡ shown (grown k R P t q free) free
  pub fit : Became k R P t q free n b (grown k R P t q free)

pub record GrownF (k R P : ℕ) (f : Forest) (q : Rec) (free : List ℕ) (n : ℕ) : Type 0 where
  pub fair : FairF k R P f q free
  pub made : grow_f k R P f q free ≡ shown_f (grown_f k R P f q free) free
  pub fit : BecameF k R P f q free n (grown_f k R P f q free)

-- the records and the pages of joined entries
join_tally : (g : Rec → Bool) (f h : Forest) → tally g (records_f (join_f f h)) ≡ tally g (records_f f) + tally g (records_f h)
join_tally g fnil h = omega arith
join_tally g (fcons b t f) h = simp tally_append (omega (arith, join_tally g f h))

join_pages : (g : ℕ → Bool) (f h : Forest) → tally g (pages_f (join_f f h)) ≡ tally g (pages_f f) + tally g (pages_f h)
join_pages g fnil h = omega arith
join_pages g (fcons b t f) h = simp tally_append (omega (arith, join_pages g f h))

join_boxes : (f h : Forest) → boxes (join_f f h) ≡ boxes f ++ boxes h
join_boxes fnil h = refl
join_boxes (fcons b t f) h = ap (λ bs. b ∷ bs) (join_boxes f h)

size_length : (f : Forest) → size f ≡ length (boxes f)
size_length fnil = refl
size_length (fcons b t f) = ap suc (size_length f)

-- a record whose key is new still differs
differ_snoc : (rs : List Rec) (q : Rec) → T (differ rs) → tally (λ r. same q.key r.key) rs ≡ 0 → T (differ (rs ++ (q ∷ [])))
differ_snoc [] q t n = tt
differ_snoc (r ∷ rs) q t n =
    let g : Rec → Bool = λ a. same r.key a.key in
    let z : tally g rs ≡ 0 = eqb→eq (tally g rs) 0 (and_l (eqb (tally g rs) 0) _ t) in
    let y : bit (same r.key q.key) ≡ 0 = no_bit (same r.key q.key) (λ u.
    let v : T (same q.key r.key) = subst (λ p. T (same q.key p)) (sym (same_eq r.key q.key u)) (same_refl q.key) in
    omega (arith, n, to_bit (same q.key r.key) v)) in
    let e : tally g (rs ++ (q ∷ [])) ≡ 0 = omega (arith, tally_append g rs (q ∷ [])) in
    and_i (eqb (tally g (rs ++ (q ∷ []))) 0) _ (rw e tt) (differ_snoc rs q (and_r (eqb (tally g rs) 0) _ t) (omega arith))

module _ (k R P : ℕ) where
  join_shaped : (f h : Forest) (n : ℕ) → ShapedF k R P f n → ShapedF k R P h n → ShapedF k R P (join_f f h) n
  join_shaped fnil h n i j = j
  join_shaped (fcons b t f) h n i j = (i.0, join_shaped f h n i.1 j)

  -- an overfull page, along its cut
  broken_made : (d x : ℕ) (t : Tree) (u : ℕ) (free : List ℕ) → u ≤ length free → chosen k R P (cut d x) t (drop u free) ≡ shown (broken k R P (cut d x) t u free) free
  broken_made d x t u free h =
      bool (leb (u + need d x t) (length free))
      (λ c. let i = leb→le (u + need d x t) (length free) c in
      ap (parted d x) (split_some k d x t (after_chosen k d) (drop u free) (omega (arith, length-drop u free)))
      ∙ (ap (λ fr. parts d x (record { lt = half k d x t true (after_chosen k d) (drop u free); rt = half k d x t false (after_chosen k d) (drop u free); free = fr })) (drop-drop (need d x t) u free)
      ∙ sym (shown_enough (broken k R P (cut d x) t u free) free i)))
      (λ c. let i = nleb→lt (u + need d x t) (length free) c in
      ap (parted d x) (split_none k d x t (after_chosen k d) (drop u free) (omega (arith, length-drop u free)))
      ∙ sym (shown_short (broken k R P (cut d x) t u free) free i))

  broken_fit : (t t' : Tree) (q : Rec) (free : List ℕ) (n : ℕ) (b : Box) (d x u : ℕ) → Inside d x b
      → Shaped k R P (half k d x t' true (after_chosen k d) (drop u free)) n (left_part d x b) → Shaped k R P (half k d x t' false (after_chosen k d) (drop u free)) n (right_part d x b)
      → ((g : Rec → Bool) → tally g (records t') ≡ tally g (records t) + bit (g q))
      → ((g : ℕ → Bool) → u ≤ length free → tally g (pages t') ≡ tally g (pages t) + tally g (take u free))
      → Became k R P t q free n b (broken k R P (cut d x) t' u free)
  broken_fit t t' q free n b d x u i l r held paged =
      record {
        shaped = (i, l, r);
        held = λ g. half_records k d x t' (after_chosen k d) (drop u free) g ∙ held g;
        paged = λ g h.
            let a = half_pages k d x t' (after_chosen k d) (drop u free) g (omega (arith, length-drop u free)) in
            let c = ap (tally g) (take-add u (need d x t') free) ∙ tally_append g (take u free) (take (need d x t') (drop u free)) in
            omega (arith, paged g (omega arith));
      }

  leaf_ok : (p e : ℕ) (rs : List Rec) (q : Rec) (free : List ℕ) (n : ℕ) (b : Box) → 1 ≤ P → Shaped k R P (leaf p e rs) n b → length b ≡ k
      → T (within b q.key) → tally (λ r. same q.key r.key) rs ≡ 0 → Grown k R P (leaf p e rs) q free n b
  leaf_ok p e rs q free n b pos h lb i new =
      record {
        fair = λ over. let c = cuts over in subst (λ z. FairPoints k R P z rs') (sym c.is) (c.below, rooms c true, rooms c false);
        made = made (leb (length rs') P) (nleb→lt (length rs') P);
        fit = fit (leb (length rs') P) (leb→le (length rs') P) (nleb→lt (length rs') P);
      }
    where
      rs' : List Rec
      rs' = rs ++ (q ∷ [])

      long : length rs' ≤ suc P
      long = omega (arith, h.1.room, length-append rs (q ∷ []))

      inside : T (every (λ r. within b r.key) rs')
      inside = every_append (λ r. within b r.key) rs (q ∷ []) h.1.inside (and_i (within b q.key) _ i tt)

      differs : T (differ rs')
      differs = differ_snoc rs q h.1.distinct new

      cuts : P < length rs' → PointsCut k e rs'
      cuts over = points_cut k e rs' h.1.domain (λ r m. within_length b r.key (every_in (λ r. within b r.key) r rs' inside m) ∙ lb) differs (omega arith)

      rooms : (c : PointsCut k e rs') (s : Bool) → length (only (λ r. on s c.dom c.at r.key) rs') ≤ P
      rooms c s = omega (arith, points_rooms k e rs' c s, long)

      made : (s : Bool) → (T (not s) → P < length rs')
          → elim s as (λ _. Up) [ true ↦ fits (leaf p e rs') free | false ↦ chosen k R P (cut_points k e rs') (leaf p e rs') free ]
          ≡ shown (elim s as (λ _. Out) [ true ↦ one (leaf p e rs') 0 | false ↦ broken k R P (cut_points k e rs') (leaf p e rs') 0 free ]) free
      made true over = sym (shown_enough (one (leaf p e rs') 0) free (omega arith))
      made false over =
          let c = cuts (over tt) in
          subst (λ z. chosen k R P z (leaf p e rs') free ≡ shown (broken k R P z (leaf p e rs') 0 free) free) (sym c.is) (broken_made c.dom c.at (leaf p e rs') 0 free (omega arith))

      fit : (s : Bool) → (T s → length rs' ≤ P) → (T (not s) → P < length rs')
          → Became k R P (leaf p e rs) q free n b (elim s as (λ _. Out) [ true ↦ one (leaf p e rs') 0 | false ↦ broken k R P (cut_points k e rs') (leaf p e rs') 0 free ])
      fit true room over =
          record {
            shaped = (h.0, record { room = room tt; domain = h.1.domain; inside = inside; distinct = differs });
            held = λ g. omega (arith, tally_append g rs (q ∷ []));
            paged = λ g _. omega arith;
          }
      fit false room over =
          let c = cuts (over tt) in
          let ins = points_inside k e b rs' inside c in
          let dom = chosen_below k c.dom c.below in
          subst (λ z. Became k R P (leaf p e rs) q free n b (broken k R P z (leaf p e rs') 0 free)) (sym c.is)
          (broken_fit (leaf p e rs) (leaf p e rs') q free n b c.dom c.at 0 ins
          (h.0, point_half k R P c.dom c.at true (after_chosen k c.dom) rs' b dom ins inside differs (rooms c true))
          (h.0, point_half k R P c.dom c.at false (after_chosen k c.dom) rs' b dom ins inside differs (rooms c false))
          (λ g. omega (arith, tally_append g rs (q ∷ []))) (λ g _. omega arith))

  -- a region page, after its entries have become o
  settled_made : (p e : ℕ) (o : OutF) (free : List ℕ) → (R < size (forest o) → (d : ℕ) × (x : ℕ) × (cut_regions k e (boxes (forest o)) ≡ cut d x))
      → settle_node k R P p e (shown_f o free) ≡ shown (settled_node k R P p e o free) free
  settled_made p e (as_many f u) free cuts = go (leb u (length free))
    where
      go : (c : Bool) → settle_node k R P p e (show_by_f c (as_many f u) free) ≡ show_by c (one (node p e f) u) free
      go true = refl
      go false = refl
  settled_made p e (one_more f u) free cuts =
      bool (leb u (length free))
      (λ c. let i = leb→le u (length free) c in
      ap (settle_node k R P p e) (shown_f_enough (one_more f u) free i) ∙ enough i (leb (size f) R) (nleb→lt (size f) R))
      (λ c. let i = nleb→lt u (length free) c in
      ap (settle_node k R P p e) (shown_f_short (one_more f u) free i)
      ∙ sym (shown_short (settled_node k R P p e (one_more f u) free) free (omega (arith, more (leb (size f) R) (cut_regions k e (boxes f))))))
    where
      enough : u ≤ length free → (s : Bool) → (T (not s) → R < size f)
          → elim s as (λ _. Up) [ true ↦ fits (node p e f) (drop u free) | false ↦ chosen k R P (cut_regions k e (boxes f)) (node p e f) (drop u free) ]
          ≡ shown (elim s as (λ _. Out) [ true ↦ one (node p e f) u | false ↦ broken k R P (cut_regions k e (boxes f)) (node p e f) u free ]) free
      enough i true over = sym (shown_enough (one (node p e f) u) free i)
      enough i false over =
          let c = cuts (over tt) in
          subst (λ z. chosen k R P z (node p e f) (drop u free) ≡ shown (broken k R P z (node p e f) u free) free) (sym c.2) (broken_made c.0 c.1 (node p e f) u free i)

      more : (s : Bool) (z : Cut) → u ≤ used (elim s as (λ _. Out) [ true ↦ one (node p e f) u | false ↦ broken k R P z (node p e f) u free ])
      more true z = omega arith
      more false nowhere = omega arith
      more false (cut d x) = omega arith

  node_ok : (p e : ℕ) (f : Forest) (q : Rec) (free : List ℕ) (n : ℕ) (b : Box) → 1 ≤ R → RegionPage k R e (boxes f) b → length b ≡ k
      → GrownF k R P f q free n → Grown k R P (node p e f) q free (suc n) b
  node_ok p e f q free n b pos h lb i =
      record {
        fair = (i.fair, subst (FairWider k R P e) (sym i.made) (fair (grown_f k R P f q free) i.fit));
        made = ap (settle_node k R P p e) i.made ∙ settled_made p e (grown_f k R P f q free) free (λ over. let c = cuts (grown_f k R P f q free) i.fit over in (c.dom, c.at, c.is));
        fit = fit (grown_f k R P f q free) i.fit;
      }
    where
      tiled : (o : OutF) → BecameF k R P f q free n o → Tiles b (boxes (forest o))
      tiled o w =
          let c = tiles_counted b (boxes f) h.tiled in
          counted_tiles b (boxes (forest o)) (record { solids = w.firm c.solids; once = λ p. w.hold p ∙ c.once p })

      cuts : (o : OutF) → BecameF k R P f q free n o → R < size (forest o) → RegionsCut k e b (boxes (forest o))
      cuts o w over = regions_cut k e b (boxes (forest o)) lb h.domain (tiled o w) (omega (arith, size_length (forest o)))

      page : (o : OutF) → BecameF k R P f q free n o → size (forest o) ≤ R → RegionPage k R e (boxes (forest o)) b
      page o w l = record { filled = omega (arith, h.filled, w.wide); room = omega (arith, size_length (forest o)); domain = h.domain; tiled = tiled o w }

      rooms : (o : OutF) → BecameF k R P f q free n o → (c : RegionsCut k e b (boxes (forest o))) (s : Bool) → length (Tiling.parts s c.dom c.at (boxes (forest o))) ≤ R
      rooms o w c s = omega (arith, regions_rooms k e b (boxes (forest o)) c s, w.wide, h.room, one_most o)

      fair : (o : OutF) → BecameF k R P f q free n o → FairWider k R P e (shown_f o free)
      fair o w = go o w (leb (used_f o) (length free))
        where
          go : (o : OutF) → BecameF k R P f q free n o → (c : Bool) → FairWider k R P e (show_by_f c o free)
          go o w false = tt
          go (as_many g u) w true = tt
          go (one_more g u) w true = λ over.
              let c = cuts (one_more g u) w over in
              subst (λ z. FairRegions k R P z (boxes g)) (sym c.is)
              (c.below, rooms (one_more g u) w c true, rooms (one_more g u) w c false)

      fit : (o : OutF) → BecameF k R P f q free n o → Became k R P (node p e f) q free (suc n) b (settled_node k R P p e o free)
      fit (as_many g u) w =
          record {
            shaped = (page (as_many g u) w (omega (arith, size_length g, w.wide, h.room)), w.shaped);
            held = w.held;
            paged = λ t l. omega (arith, w.paged t l);
          }
      fit (one_more g u) w = go (leb (size g) R) (leb→le (size g) R) (nleb→lt (size g) R)
        where
          go : (s : Bool) → (T s → size g ≤ R) → (T (not s) → R < size g)
              → Became k R P (node p e f) q free (suc n) b (elim s as (λ _. Out) [ true ↦ one (node p e g) u | false ↦ broken k R P (cut_regions k e (boxes g)) (node p e g) u free ])
          go true room over = record { shaped = (page (one_more g u) w (room tt), w.shaped); held = w.held; paged = λ t l. omega (arith, w.paged t l) }
          go false room over =
              let c = cuts (one_more g u) w (over tt) in
              let d = c.dom in
              let x = c.at in
              let dom = chosen_below k d c.below in
              let page-half : (s : Bool) → RegionPage k R (after_chosen k d) (boxes (half_f k d x g s (drop 1 (drop u free)))) (part s d x b) = λ s.
              subst (λ bs. RegionPage k R (after_chosen k d) bs (part s d x b)) (sym (half_boxes k d x g s (drop 1 (drop u free))))
              (region_half k R P d x s (after_chosen k d) (boxes g) b dom c.inside (tiled (one_more g u) w) (omega (arith, w.wide)) (rooms (one_more g u) w c s)) in
              subst (λ z. Became k R P (node p e f) q free (suc n) b (broken k R P z (node p e g) u free)) (sym c.is)
              (broken_fit (node p e f) (node p e g) q free (suc n) b d x u c.inside
              (page-half true, shaped_f_half k R P d x g n true (drop 1 (drop u free)) w.shaped)
              (page-half false, shaped_f_half k R P d x g n false (drop 1 (drop u free)) w.shaped)
              w.held (λ t l. omega (arith, w.paged t l)))

-- an entry with what its child has become, and an entry passed by
entered_made : (b : Box) (o : Out) (f : Forest) (free : List ℕ) → enter b (shown o free) f ≡ shown_f (entered b o f) free
entered_made b (one t u) f free = go (leb u (length free))
  where
    go : (c : Bool) → enter b (show_by c (one t u) free) f ≡ show_by_f c (entered b (one t u) f) free
    go true = refl
    go false = refl
entered_made b (two d x l r u) f free = go (leb u (length free))
  where
    go : (c : Bool) → enter b (show_by c (two d x l r u) free) f ≡ show_by_f c (entered b (two d x l r u) f) free
    go true = refl
    go false = refl

passed_made : (b : Box) (t : Tree) (o : OutF) (free : List ℕ) → behind b t (shown_f o free) ≡ shown_f (passed b t o) free
passed_made b t (as_many f u) free = go (leb u (length free))
  where
    go : (c : Bool) → behind b t (show_by_f c (as_many f u) free) ≡ show_by_f c (passed b t (as_many f u)) free
    go true = refl
    go false = refl
passed_made b t (one_more f u) free = go (leb u (length free))
  where
    go : (c : Bool) → behind b t (show_by_f c (one_more f u) free) ≡ show_by_f c (passed b t (one_more f u)) free
    go true = refl
    go false = refl

module _ (k R P : ℕ) where
  entered_fit : (b : Box) (t : Tree) (f : Forest) (q : Rec) (free : List ℕ) (n : ℕ) (o : Out) → Became k R P t q free n b o → ShapedF k R P f n → BecameF k R P (fcons b t f) q free n (entered b o f)
  entered_fit b t f q free n (one t' u) w h =
      record {
        shaped = (w.shaped, h);
        hold = λ p. refl;
        firm = λ s. s;
        wide = omega arith;
        held = λ g. simp tally_append (omega (arith, w.held g));
        paged = λ g l. simp tally_append (omega (arith, w.paged g l));
      }
  entered_fit b t f q free n (two d x l r u) w h =
      let c = fcons (right_part d x b) r fnil in
      let i = w.shaped.0 in
      record {
        shaped = (w.shaped.1, join_shaped k R P f c n h (w.shaped.2, tt));
        hold = λ p. rw (join_boxes f c) (omega (arith, tally_append (λ a. within a p) (boxes f) (right_part d x b ∷ []), two_hold d x b i p));
        firm = λ s. rw (join_boxes f c) (and_i (solid (left_part d x b)) _ (part_solid true d x b i (and_l (solid b) _ s))
            (every_append solid (boxes f) (right_part d x b ∷ []) (and_r (solid b) _ s) (and_i (solid (right_part d x b)) _ (part_solid false d x b i (and_l (solid b) _ s)) tt)));
        wide = rw (join_boxes f c) (omega (arith, length-append (boxes f) (right_part d x b ∷ [])));
        held = λ g. simp tally_append (omega (arith, w.held g, join_tally g f c, tally_append g (records r) []));
        paged = λ g l. simp tally_append (omega (arith, w.paged g l, join_pages g f c, tally_append g (pages r) []));
      }

  stead_behind : (b : Box) (t : Tree) (f g : Forest) (q : Rec) (free : List ℕ) (n u more : ℕ) → Shaped k R P t n b → Stead k R P f q free n g u more → Stead k R P (fcons b t f) q free n (fcons b t g) u more
  stead_behind b t f g q free n u more h w =
      record {
        shaped = (h, w.shaped);
        hold = λ p. omega (arith, w.hold p);
        firm = λ s. and_i (solid b) _ (and_l (solid b) _ s) (w.firm (and_r (solid b) _ s));
        wide = omega (arith, w.wide);
        held = λ a. simp tally_append (omega (arith, w.held a));
        paged = λ a l. simp tally_append (omega (arith, w.paged a l));
      }

  passed_fit : (b : Box) (t : Tree) (f : Forest) (q : Rec) (free : List ℕ) (n : ℕ) (o : OutF) → Shaped k R P t n b → BecameF k R P f q free n o → BecameF k R P (fcons b t f) q free n (passed b t o)
  passed_fit b t f q free n (as_many g u) h w = stead_behind b t f g q free n u 0 h w
  passed_fit b t f q free n (one_more g u) h w = stead_behind b t f g q free n u 1 h w

  entry_ok : (b : Box) (t : Tree) (f : Forest) (q : Rec) (free : List ℕ) (n : ℕ) → Shaped k R P t n b → ShapedF k R P f n
      → (T (within b q.key) → Grown k R P t q free n b) → (T (not (within b q.key)) → GrownF k R P f q free n) → GrownF k R P (fcons b t f) q free n
  entry_ok b t f q free n h hs v w =
      record {
        fair = (λ y. (v y).fair, λ y. (w y).fair);
        made = made (within b q.key) (λ y. (v y).made) (λ y. (w y).made);
        fit = by_case (λ o. BecameF k R P (fcons b t f) q free n o) (within b q.key) (entered b (grown k R P t q free) f) (passed b t (grown_f k R P f q free))
            (λ y. entered_fit b t f q free n (grown k R P t q free) (v y).fit hs) (λ y. passed_fit b t f q free n (grown_f k R P f q free) h (w y).fit);
      }
    where
      made : (s : Bool) → (T s → grow k R P t q free ≡ shown (grown k R P t q free) free) → (T (not s) → grow_f k R P f q free ≡ shown_f (grown_f k R P f q free) free)
          → elim s as (λ _. UpF) [ true ↦ enter b (grow k R P t q free) f | false ↦ behind b t (grow_f k R P f q free) ]
          ≡ shown_f (elim s as (λ _. OutF) [ true ↦ entered b (grown k R P t q free) f | false ↦ passed b t (grown_f k R P f q free) ]) free
      made true v w = ap (λ u. enter b u f) (v tt) ∙ entered_made b (grown k R P t q free) f free
      made false v w = ap (behind b t) (w tt) ∙ passed_made b t (grown_f k R P f q free) free

  module _ (someP : 1 ≤ P) (someR : 1 ≤ R) where
    mutual
      pub grow_ok : (t : Tree) (n : ℕ) (q : Rec) (free : List ℕ) (b : Box) → Shaped k R P t n b → length b ≡ k → T (within b q.key)
          → tally (λ r. same q.key r.key) (records t) ≡ 0 → Grown k R P t q free n b
      grow_ok (leaf p e rs) n q free b h lb i new = leaf_ok k R P p e rs q free n b someP h lb i new
      grow_ok (node p e f) zero q free b h lb i new = absurd h
      grow_ok (node p e f) (suc n) q free b h lb i new =
          let c = tiles_counted b (boxes f) h.0.tiled in
          node_ok k R P p e f q free n b someR h.0 lb
          (grow_f_ok f n q free h.1 (λ a m. entry_length b (boxes f) c a m ∙ lb) (omega (arith, c.once q.key, to_bit (within b q.key) i)) new)

      pub grow_f_ok : (f : Forest) (n : ℕ) (q : Rec) (free : List ℕ) → ShapedF k R P f n → ((c : Box) → In c (boxes f) → length c ≡ k) → 1 ≤ holders (boxes f) q.key
          → tally (λ r. same q.key r.key) (records_f f) ≡ 0 → GrownF k R P f q free n
      grow_f_ok fnil n q free h l i new = absurd (omega arith)
      grow_f_ok (fcons b t f) n q free h l i new =
          let split = tally_append (λ r. same q.key r.key) (records t) (records_f f) in
          entry_ok b t f q free n h.0 h.1
          (λ y. grow_ok t n q free b h.0 (l b (in_head b (boxes f))) y (omega arith))
          (λ y. grow_f_ok f n q free h.1 (λ c m. l c (in_tail c b (boxes f) m)) (omega (arith, no_bit (within b q.key) (T_not (within b q.key) y))) (omega arith))

-- the pages that are free
pub free_once : (N : ℕ) (ps : List ℕ) (c : ℕ) → many c (free_of N ps) ≤ 1
free_once N ps c = omega (arith, tally_only (λ a. eqb (many a ps) 0) (eqb c) (up_from (N - 1) 1), up_from_once (N - 1) 1 c)

pub free_in_lem : (N : ℕ) (ps : List ℕ) (c : ℕ) → 1 ≤ many c (free_of N ps) → (1 ≤ c) × (c < N) × (many c ps ≡ 0)
free_in_lem N ps c h =
    let i = up_from_in (N - 1) 1 c (omega (arith, tally_only (λ a. eqb (many a ps) 0) (eqb c) (up_from (N - 1) 1))) in
    (i.0, omega arith, eqb→eq (many c ps) 0 (many_only (λ a. eqb (many a ps) 0) c (up_from (N - 1) 1) h))

-- pages with the first of the free ones are still different pages of 1 to N − 1
pub numbered_more : (N : ℕ) (ps qs : List ℕ) (n : ℕ) → Numbered N ps → ((c : ℕ) → many c qs ≡ many c ps + many c (take n (free_of N ps))) → Numbered N qs
numbered_more N ps qs n h e =
    record {
      inside = λ c i. bool (leb 1 (many c ps)) (λ t. h.inside c (leb→le 1 (many c ps) t))
          (λ t. let f = free_in_lem N ps c (omega (arith, nleb→lt 1 (many c ps) t, e c, tally_take (eqb c) n (free_of N ps))) in (f.0, f.1));
      once = λ c. bool (leb 1 (many c (free_of N ps)))
          (λ t. omega (arith, (free_in_lem N ps c (leb→le 1 (many c (free_of N ps)) t)).2, e c, tally_take (eqb c) n (free_of N ps), free_once N ps c))
          (λ t. omega (arith, nleb→lt 1 (many c (free_of N ps)) t, e c, tally_take (eqb c) n (free_of N ps), h.once c));
    }

-- the tree under its root, a new one if the root was parted, and the pages that all this claims
abbrev pub claimed : Out → ℕ
claimed (one t u) = u
claimed (two d x l r u) = suc u

abbrev pub at_top : ℕ → Out → List ℕ → Tree
at_top k (one t u) free = t
at_top k (two d x l r u) free = node (get_or free u 0) 0 (fcons (left_part d x (whole k)) l (fcons (right_part d x (whole k)) r fnil))

-- how many pages the placing of q claims, and the tree after it
abbrev pub claims : ℕ → ℕ → ℕ → ℕ → State → Rec → ℕ
claims k R P N none q = 1
claims k R P N (some t) q = claimed (grown k R P t q (free_of N (pages t)))

abbrev pub tree_after : ℕ → ℕ → ℕ → ℕ → State → Rec → Tree
tree_after k R P N none q = leaf (get_or (free_of N []) 0 0) 0 (q ∷ [])
tree_after k R P N (some t) q = at_top k (grown k R P t q (free_of N (pages t))) (free_of N (pages t))

pub topped_enough : (k : ℕ) (o : Out) (free : List ℕ) → claimed o ≤ length free → topped k (shown o free) ≡ some (some (at_top k o free))
topped_enough k (one t u) free h = ap (topped k) (shown_enough (one t u) free h)
topped_enough k (two d x l r u) free h =
    ap (topped k) (shown_enough (two d x l r u) free (omega arith)) ∙ ap (new_root k d x (record { lt = l; rt = r; free = drop u free })) (drop-cons free u 0 h)

topped_short : (k : ℕ) (o : Out) (free : List ℕ) → length free < claimed o → topped k (shown o free) ≡ none
topped_short k (one t u) free h = ap (topped k) (shown_short (one t u) free h)
topped_short k (two d x l r u) free h =
    bool (leb u (length free))
    (λ c. ap (topped k) (shown_enough (two d x l r u) free (leb→le u (length free) c))
    ∙ ap (new_root k d x (record { lt = l; rt = r; free = drop u free })) (drop_of_length-le free {i = u} (omega arith)))
    (λ c. ap (topped k) (shown_short (two d x l r u) free (nleb→lt u (length free) c)))

pub first_enough : (q : Rec) (free : List ℕ) → 1 ≤ length free → first q free ≡ some (some (leaf (get_or free 0 0) 0 (q ∷ [])))
first_enough q [] h = absurd (omega arith)
first_enough q (r ∷ free) h = refl

first_short : (q : Rec) (free : List ℕ) → length free < 1 → first q free ≡ none
first_short q [] h = refl
first_short q (r ∷ free) h = absurd (omega arith)

whole_solid : (k : ℕ) → T (solid (whole k))
whole_solid zero = tt
whole_solid (suc k) = whole_solid k

pub whole_length : (k : ℕ) → length (whole k) ≡ k
whole_length zero = refl
whole_length (suc k) = ap suc (whole_length k)

-- room for the steps: a point page takes a point, a region page two regions
pub record Roomy (L k : ℕ) : Type 0 where
  pub domains : 1 ≤ k
  pub points : 1 ≤ points_per L k
  pub regions : 2 ≤ regions_per L k

-- a tree at its own level
pub at_levels : (k R P : ℕ) (t : Tree) (n : ℕ) (r : Box) → Shaped k R P t n r → Shaped k R P t (levels t - 1) r
at_levels k R P t n r h = subst (λ m. Shaped k R P t m r) (omega (arith, shaped_levels k R P t n r h)) h

top_shaped : (k R P : ℕ) (o : Out) (n : ℕ) (free : List ℕ) → 1 ≤ k → 2 ≤ R → ShapedOut k R P o n (whole k) → Shaped k R P (at_top k o free) (levels (at_top k o free) - 1) (whole k)
top_shaped k R P (one t u) n free hk hr h = at_levels k R P t n (whole k) h
top_shaped k R P (two d x l r u) n free hk hr h =
    at_levels k R P (at_top k (two d x l r u) free) (suc n) (whole k)
    (record { filled = omega arith; room = hr; domain = hk; tiled = two_tile d x (whole k) h.0 (whole_solid k) }, (h.1, (h.2, tt)))

top_records : (k : ℕ) (g : Rec → Bool) (o : Out) (free : List ℕ) → tally g (records (at_top k o free)) ≡ records_in g o
top_records k g (one t u) free = refl
top_records k g (two d x l r u) free = simp tally_append (omega arith)

top_pages : (k : ℕ) (g : ℕ → Bool) (o : Out) (free : List ℕ) (old : ℕ) → claimed o ≤ length free → (used o ≤ length free → pages_in g o ≡ old + tally g (take (used o) free))
    → tally g (pages (at_top k o free)) ≡ old + tally g (take (claimed o) free)
top_pages k g (one t u) free old h f = f h
top_pages k g (two d x l r u) free old h f =
    let e = ap (tally g) (take-suc free u 0 h) ∙ tally_append g (take u free) (get_or free u 0 ∷ []) in
    simp tally_append (omega (arith, f (omega arith)))

-- placing on a well-formed state a record whose key lies in the space and is new
pub record Placing (L k N : ℕ) (s : State) (q : Rec) : Type 0 where
  pub roomy : Roomy L k
  pub formed : WellFormed L k N s
  pub inside : T (within (whole k) q.key)
  pub new : tally (λ r. same q.key r.key) (records_of s) ≡ 0

module _ (L k N : ℕ) where
  pub placing_grown : (t : Tree) (q : Rec) (free : List ℕ) → Placing L k N (some t) q → Grown k (regions_per L k) (points_per L k) t q free (levels t - 1) (whole k)
  placing_grown t q free p =
      grow_ok k (regions_per L k) (points_per L k) p.roomy.points (omega (arith, p.roomy.regions)) t (levels t - 1) q free (whole k) p.formed.shape (whole_length k) p.inside p.new

  pub formed_fair : (t : Tree) (q : Rec) (free : List ℕ) → Placing L k N (some t) q → Fair k (regions_per L k) (points_per L k) t q free
  formed_fair t q free p = (placing_grown t q free p).fair

  -- the steps succeed exactly if the free pages suffice
  pub placed_some : (s : State) (q : Rec) → Placing L k N s q → claims k (regions_per L k) (points_per L k) N s q ≤ length (free_of N (pages_of s))
      → placed k (regions_per L k) (points_per L k) N s q ≡ some (some (tree_after k (regions_per L k) (points_per L k) N s q))
  placed_some none q p h = first_enough q (free_of N []) h
  placed_some (some t) q p h =
      ap (topped k) (placing_grown t q (free_of N (pages t)) p).made ∙ topped_enough k (grown k (regions_per L k) (points_per L k) t q (free_of N (pages t))) (free_of N (pages t)) h

  pub placed_none : (s : State) (q : Rec) → Placing L k N s q → length (free_of N (pages_of s)) < claims k (regions_per L k) (points_per L k) N s q
      → placed k (regions_per L k) (points_per L k) N s q ≡ none
  placed_none none q p h = first_short q (free_of N []) h
  placed_none (some t) q p h =
      ap (topped k) (placing_grown t q (free_of N (pages t)) p).made ∙ topped_short k (grown k (regions_per L k) (points_per L k) t q (free_of N (pages t))) (free_of N (pages t)) h

  pub placed_none_iff : (s : State) (q : Rec) → Placing L k N s q
      → (placed k (regions_per L k) (points_per L k) N s q ≡ none) ↔ (length (free_of N (pages_of s)) < claims k (regions_per L k) (points_per L k) N s q)
  placed_none_iff s q p =
      let n = claims k (regions_per L k) (points_per L k) N s q in
      let free = free_of N (pages_of s) in (
        λ e. bool (leb n (length free)) (λ t. let f = placed_some s q p (leb→le n (length free) t) in let z : ◌≡◌ {A = ℕ} 0 1 = cc in absurd (omega arith)) (λ t. nleb→lt n (length free) t),
        placed_none s q p,
      )

  -- the pages after: the old ones and the first of the free ones
  pub after_pages : (s : State) (q : Rec) (g : ℕ → Bool) → Placing L k N s q → claims k (regions_per L k) (points_per L k) N s q ≤ length (free_of N (pages_of s))
      → tally g (pages (tree_after k (regions_per L k) (points_per L k) N s q)) ≡ tally g (pages_of s) + tally g (take (claims k (regions_per L k) (points_per L k) N s q) (free_of N (pages_of s)))
  after_pages none q g p h = go (free_of N []) h
    where
      go : (free : List ℕ) → 1 ≤ length free → tally g (get_or free 0 0 ∷ []) ≡ 0 + tally g (take 1 free)
      go [] h = absurd (omega arith)
      go (r ∷ free) h = omega arith
  after_pages (some t) q g p h =
      let free = free_of N (pages t) in
      top_pages k g (grown k (regions_per L k) (points_per L k) t q free) free (tally g (pages t)) h ((placing_grown t q free p).fit.paged g)

  pub after_records : (s : State) (q : Rec) (g : Rec → Bool) → Placing L k N s q → tally g (records (tree_after k (regions_per L k) (points_per L k) N s q)) ≡ tally g (records_of s) + bit (g q)
  after_records none q g p = omega arith
  after_records (some t) q g p =
      let free = free_of N (pages t) in
      top_records k g (grown k (regions_per L k) (points_per L k) t q free) free ∙ (placing_grown t q free p).fit.held g

  pub after_formed : (s : State) (q : Rec) → Placing L k N s q → claims k (regions_per L k) (points_per L k) N s q ≤ length (free_of N (pages_of s))
      → WellFormed L k N (some (tree_after k (regions_per L k) (points_per L k) N s q))
  after_formed s q p h =
      record {
        domains = p.formed.domains;
        size = p.formed.size;
        numbered = numbered_more N (pages_of s) (pages (tree_after k (regions_per L k) (points_per L k) N s q)) (claims k (regions_per L k) (points_per L k) N s q) p.formed.numbered (λ c. after_pages s q (eqb c) p h);
        shape = shape s p;
      }
    where
      shape : (s : State) → Placing L k N s q → ShapedS L k (some (tree_after k (regions_per L k) (points_per L k) N s q))
      shape none p = (refl, record { room = p.roomy.points; domain = p.roomy.domains; inside = and_i (within (whole k) q.key) _ p.inside tt; distinct = tt })
      shape (some t) p =
          let free = free_of N (pages t) in
          top_shaped k (regions_per L k) (points_per L k) (grown k (regions_per L k) (points_per L k) t q free) (levels t - 1) free p.roomy.domains p.roomy.regions (placing_grown t q free p).fit.shaped

  -- a state that the steps give
  pub record Placed (s s' : State) (q : Rec) : Type 0 where
    pub formed : WellFormed L k N s'
    pub held : (g : Rec → Bool) → tally g (records_of s') ≡ tally g (records_of s) + bit (g q)
    pub enough : claims k (regions_per L k) (points_per L k) N s q ≤ length (free_of N (pages_of s))
    pub paged : (g : ℕ → Bool) → tally g (pages_of s') ≡ tally g (pages_of s) + tally g (take (claims k (regions_per L k) (points_per L k) N s q) (free_of N (pages_of s)))

  pub placed_formed : (s s' : State) (q : Rec) → Placing L k N s q → placed k (regions_per L k) (points_per L k) N s q ≡ some s' → Placed s s' q
  placed_formed s s' q p e =
      let n = claims k (regions_per L k) (points_per L k) N s q in
      let free = free_of N (pages_of s) in
      bool (leb n (length free))
      (λ t. let h = leb→le n (length free) t in
      let f = placed_some s q p h in
      let i : some (tree_after k (regions_per L k) (points_per L k) N s q) ≡ s' = cc in
      subst (λ z. Placed s z q) i (record { formed = after_formed s q p h; held = λ g. after_records s q g p; enough = h; paged = λ g. after_pages s q g p h }))
      (λ t. let f = placed_none s q p (nleb→lt n (length free) t) in let z : ◌≡◌ {A = ℕ} 0 1 = cc in absurd (omega arith))
