-- Removing. A key stands at most once in a well-formed state (`key_once`), and the state without it is well formed (`removed_formed`).
use mathlib.Core.Bool.{Bool, true, ◌&&◌, not}
use mathlib.Core.List.{List, [], ◌∷◌, ◌++◌}
use mathlib.Core.Option.{none, some}
use mathlib.Core.Path.{◌≡◌, refl, sym, ap, subst}
use Prim.Native.Nat.{ℕ, zero, suc, ◌+◌, ◌-◌, ◌≤◌}
use native.Mathlib.Omega.{arith}
use lib.Dec.{T, leb, eqb, leb→le, nleb→lt, T_not, eqb→eq}
use lib.ListN.{length}
use Rattle.kdb.specs.Lists.{bit, tally, every, same}
use Rattle.kdb.specs.Box.{Box, Key, whole, within}
use Rattle.kdb.specs.Tree.{Rec, Tree, leaf, node, Forest, fnil, fcons, State, boxes, levels, pages, pages_f, records, records_f, pages_of, records_of}
use Rattle.kdb.specs.Tiling.{holders}
use Rattle.kdb.specs.Pages.{regions_per, points_per}
use Rattle.kdb.specs.Shape.{differ, RegionPage, Shaped, ShapedF, Numbered, WellFormed}
use Rattle.kdb.specs.Steps.{without, remove, remove_f, removed}
use Rattle.kdb.proofs.Tests.{and_l, and_r, and_i, bool, by_case, to_bit, no_bit, bit_eq, bit_most}
use Rattle.kdb.proofs.Lists.{same_eq, same_refl}
use Rattle.kdb.proofs.Counts.{found, tally_append, In, every_in, tally_parts}
use Rattle.kdb.proofs.Tiling.{tiles_counted}
use Rattle.kdb.proofs.Grow.{at_levels}

-- a key stands at most once, and only where the tree's own region holds it
differ_once : (p : Key) (rs : List Rec) → T (differ rs) → tally (λ r. same p r.key) rs ≤ 1
differ_once p [] t = omega arith
differ_once p (r ∷ rs) t =
    let n : Rec → Bool = λ q. same r.key q.key in
    let z : tally n rs ≡ 0 = eqb→eq (tally n rs) 0 (and_l (eqb (tally n rs) 0) _ t) in
    bool (same p r.key)
    (λ y. let e : r.key ≡ p = sym (same_eq p r.key y) in
    omega (arith, bit_most (same p r.key), subst (λ k. tally (λ q. same k q.key) rs ≡ 0) e z))
    (λ y. omega (arith, no_bit (same p r.key) (T_not (same p r.key) y), differ_once p rs (and_r (eqb (tally n rs) 0) _ t)))

page_once : (p : Key) (r : Box) (rs : List Rec) → T (every (λ q. within r q.key) rs) → T (differ rs) → tally (λ q. same p q.key) rs ≤ bit (within r p)
page_once p r rs t u =
    bool (leb 1 (tally (λ q. same p q.key) rs))
    (λ y. let i = found (λ q. same p q.key) rs (leb→le 1 (tally (λ q. same p q.key) rs) y) in
    let w : T (within r p) = subst (λ k. T (within r k)) (sym (same_eq p i.0.key i.1)) (every_in (λ q. within r q.key) i.0 rs t i.2) in
    omega (arith, differ_once p rs u, to_bit (within r p) w))
    (λ y. omega (arith, nleb→lt 1 (tally (λ q. same p q.key) rs) y))

module _ (k R P : ℕ) (p : Key) where
  mutual
    pub tree_once : (t : Tree) (n : ℕ) (r : Box) → Shaped k R P t n r → tally (λ q. same p q.key) (records t) ≤ bit (within r p)
    tree_once (leaf c d rs) n r h = page_once p r rs h.1.inside h.1.distinct
    tree_once (node c d f) zero r h = absurd h
    tree_once (node c d f) (suc n) r h = omega (arith, forest_once f n h.1, (tiles_counted r (boxes f) h.0.tiled).once p)

    pub forest_once : (f : Forest) (n : ℕ) → ShapedF k R P f n → tally (λ q. same p q.key) (records_f f) ≤ holders (boxes f) p
    forest_once fnil n h = omega arith
    forest_once (fcons b t f) n h = simp tally_append (omega (arith, tree_once t n b h.0, forest_once f n h.1))

pub key_once : (L k N : ℕ) (s : State) (p : Key) → WellFormed L k N s → tally (λ r. same p r.key) (records_of s) ≤ 1
key_once L k N none p h = omega arith
key_once L k N (some t) p h = omega (arith, tree_once k (regions_per L k) (points_per L k) p t (levels t - 1) (whole k) h.shape, bit_most (within (whole k) p))

-- removing: the pages, the levels and the regions stay
mutual
  pub remove_pages : (t : Tree) (p : Key) → pages (remove t p) ≡ pages t
  remove_pages (leaf c e rs) p = refl
  remove_pages (node c e f) p = ap (λ l. c ∷ l) (remove_f_pages f p)

  remove_f_pages : (f : Forest) (p : Key) → pages_f (remove_f f p) ≡ pages_f f
  remove_f_pages fnil p = refl
  remove_f_pages (fcons b t f) p =
      by_case (λ g. pages_f g ≡ pages t ++ pages_f f) (within b p) (fcons b (remove t p) f) (fcons b t (remove_f f p))
      (λ _. ap (λ l. l ++ pages_f f) (remove_pages t p)) (λ _. ap (λ l. pages t ++ l) (remove_f_pages f p))

pub remove_boxes : (f : Forest) (p : Key) → boxes (remove_f f p) ≡ boxes f
remove_boxes fnil p = refl
remove_boxes (fcons b t f) p =
    by_case (λ g. boxes g ≡ b ∷ boxes f) (within b p) (fcons b (remove t p) f) (fcons b t (remove_f f p)) (λ _. refl) (λ _. ap (λ bs. b ∷ bs) (remove_boxes f p))

-- a point page less a record
without_most : (g : Rec → Bool) (p : Key) (rs : List Rec) → tally g (without p rs) ≤ tally g rs
without_most g p [] = omega arith
without_most g p (r ∷ rs) =
    by_case (λ l. tally g l ≤ bit (g r) + tally g rs) (same p r.key) rs (r ∷ without p rs) (λ _. omega arith) (λ _. omega (arith, without_most g p rs))

without_length : (p : Key) (rs : List Rec) → length (without p rs) ≤ length rs
without_length p [] = omega arith
without_length p (r ∷ rs) =
    by_case (λ l. length l ≤ suc (length rs)) (same p r.key) rs (r ∷ without p rs) (λ _. omega arith) (λ _. omega (arith, without_length p rs))

without_every : (g : Rec → Bool) (p : Key) (rs : List Rec) → T (every g rs) → T (every g (without p rs))
without_every g p [] t = tt
without_every g p (r ∷ rs) t =
    by_case (λ l. T (every g l)) (same p r.key) rs (r ∷ without p rs) (λ _. and_r (g r) _ t)
    (λ _. and_i (g r) _ (and_l (g r) _ t) (without_every g p rs (and_r (g r) _ t)))

without_differ : (p : Key) (rs : List Rec) → T (differ rs) → T (differ (without p rs))
without_differ p [] t = tt
without_differ p (r ∷ rs) t =
    let n : Rec → Bool = λ q. same r.key q.key in
    let e : tally n (without p rs) ≡ 0 = omega (arith, eqb→eq (tally n rs) 0 (and_l (eqb (tally n rs) 0) _ t), without_most n p rs) in
    by_case (λ l. T (differ l)) (same p r.key) rs (r ∷ without p rs) (λ _. and_r (eqb (tally n rs) 0) _ t)
    (λ _. and_i (eqb (tally n (without p rs)) 0) _ (rw e tt) (without_differ p rs (and_r (eqb (tally n rs) 0) _ t)))

-- the record with these keys goes, and no other
pub record Gone (p : Key) (rs rs' : List Rec) : Type 0 where
  pub rec : Rec
  pub keyed : T (same p rec.key)
  pub counts : (g : Rec → Bool) → tally g rs ≡ tally g rs' + bit (g rec)

gone_left : (p : Key) (a a' c : List Rec) → Gone p a a' → Gone p (a ++ c) (a' ++ c)
gone_left p a a' c x = record { rec = x.rec; keyed = x.keyed; counts = λ g. simp tally_append (omega (arith, x.counts g)) }

gone_right : (p : Key) (a c c' : List Rec) → Gone p c c' → Gone p (a ++ c) (a ++ c')
gone_right p a c c' x = record { rec = x.rec; keyed = x.keyed; counts = λ g. simp tally_append (omega (arith, x.counts g)) }

without_gone : (p : Key) (rs : List Rec) → 1 ≤ tally (λ r. same p r.key) rs → Gone p rs (without p rs)
without_gone p [] h = absurd (omega arith)
without_gone p (r ∷ rs) h =
    by_case (λ l. Gone p (r ∷ rs) l) (same p r.key) rs (r ∷ without p rs)
    (λ y. record { rec = r; keyed = y; counts = λ g. omega arith })
    (λ y. let i = without_gone p rs (omega (arith, no_bit (same p r.key) (T_not (same p r.key) y))) in
    record { rec = i.rec; keyed = i.keyed; counts = λ g. omega (arith, i.counts g) })

without_same : (p : Key) (rs : List Rec) → tally (λ r. same p r.key) rs ≡ 0 → without p rs ≡ rs
without_same p [] h = refl
without_same p (r ∷ rs) h =
    by_case (λ l. l ≡ r ∷ rs) (same p r.key) rs (r ∷ without p rs)
    (λ y. absurd (omega (arith, to_bit (same p r.key) y))) (λ y. ap (λ l. r ∷ l) (without_same p rs (omega arith)))

mutual
  pub remove_same : (t : Tree) (p : Key) → tally (λ r. same p r.key) (records t) ≡ 0 → records (remove t p) ≡ records t
  remove_same (leaf c e rs) p h = without_same p rs h
  remove_same (node c e f) p h = remove_f_same f p h

  remove_f_same : (f : Forest) (p : Key) → tally (λ r. same p r.key) (records_f f) ≡ 0 → records_f (remove_f f p) ≡ records_f f
  remove_f_same fnil p h = refl
  remove_f_same (fcons b t f) p h =
      let a = tally_append (λ r. same p r.key) (records t) (records_f f) in
      by_case (λ g. records_f g ≡ records t ++ records_f f) (within b p) (fcons b (remove t p) f) (fcons b t (remove_f f p))
      (λ _. ap (λ l. l ++ records_f f) (remove_same t p (omega arith))) (λ _. ap (λ l. records t ++ l) (remove_f_same f p (omega arith)))

module _ (k R P : ℕ) (p : Key) where
  mutual
    pub remove_shaped : (t : Tree) (n : ℕ) (r : Box) → Shaped k R P t n r → Shaped k R P (remove t p) n r
    remove_shaped (leaf c e rs) n r h = (
      h.0,
      record {
        room = omega (arith, h.1.room, without_length p rs);
        domain = h.1.domain;
        inside = without_every (λ q. within r q.key) p rs h.1.inside;
        distinct = without_differ p rs h.1.distinct;
      },
    )
    remove_shaped (node c e f) zero r h = h
    remove_shaped (node c e f) (suc n) r h = (subst (λ bs. RegionPage k R e bs r) (sym (remove_boxes f p)) h.0, remove_f_shaped f n h.1)

    remove_f_shaped : (f : Forest) (n : ℕ) → ShapedF k R P f n → ShapedF k R P (remove_f f p) n
    remove_f_shaped fnil n h = tt
    remove_f_shaped (fcons b t f) n h =
        by_case (λ g. ShapedF k R P g n) (within b p) (fcons b (remove t p) f) (fcons b t (remove_f f p))
        (λ _. (remove_shaped t n b h.0, h.1)) (λ _. (h.0, remove_f_shaped f n h.1))

  mutual
    pub remove_gone : (t : Tree) (n : ℕ) (r : Box) → Shaped k R P t n r → 1 ≤ tally (λ q. same p q.key) (records t) → Gone p (records t) (records (remove t p))
    remove_gone (leaf c e rs) n r h i = without_gone p rs i
    remove_gone (node c e f) zero r h i = absurd h
    remove_gone (node c e f) (suc n) r h i =
        remove_f_gone f n h.1 (omega (arith, (tiles_counted r (boxes f) h.0.tiled).once p, bit_most (within r p))) i

    -- only the entry that holds the key has records with it
    remove_f_gone : (f : Forest) (n : ℕ) → ShapedF k R P f n → holders (boxes f) p ≤ 1 → 1 ≤ tally (λ q. same p q.key) (records_f f) → Gone p (records_f f) (records_f (remove_f f p))
    remove_f_gone fnil n h l i = absurd (omega arith)
    remove_f_gone (fcons b t f) n h l i =
        let a = tally_append (λ q. same p q.key) (records t) (records_f f) in
        let ft = tree_once k R P p t n b h.0 in
        let ff = forest_once k R P p f n h.1 in
        by_case (λ g. Gone p (records t ++ records_f f) (records_f g)) (within b p) (fcons b (remove t p) f) (fcons b t (remove_f f p))
        (λ y. gone_left p (records t) (records (remove t p)) (records_f f) (remove_gone t n b h.0 (omega (arith, to_bit (within b p) y))))
        (λ y. gone_right p (records t) (records_f f) (records_f (remove_f f p)) (remove_f_gone f n h.1 (omega arith) (omega (arith, no_bit (within b p) (T_not (within b p) y)))))

-- two records with one key that stands once pass the same tests
gone_is : (p : Key) (rs rs' : List Rec) (r : Rec) (g : Rec → Bool) → tally (λ q. same p q.key) rs ≤ 1 → In r rs → r.key ≡ p → (x : Gone p rs rs') → bit (g r) ≡ bit (g x.rec)
gone_is p rs rs' r g l m e x =
    let passing : Rec → Bool = λ q. same p q.key && g q in
    let failing : Rec → Bool = λ q. same p q.key && not (g q) in
    let kr : T (same p r.key) = subst (λ q. T (same p q)) (sym e) (same_refl p) in
    let both : tally passing rs + tally failing rs ≤ 1 = omega (arith, tally_parts (λ q. same p q.key) g rs) in
    bit_eq (g r) (g x.rec)
    (λ t. bool (g x.rec) (λ u. u) (λ n.
    absurd (omega (arith, m.counted passing (and_i (same p r.key) _ kr t), x.counts failing, to_bit (failing x.rec) (and_i (same p x.rec.key) _ x.keyed n)))))
    (λ t. bool (g r) (λ u. u) (λ n.
    absurd (omega (arith, m.counted failing (and_i (same p r.key) _ kr n), x.counts passing, to_bit (passing x.rec) (and_i (same p x.rec.key) _ x.keyed t)))))

-- the state after a removal: well formed, on the same pages, less the record with these keys if there is one
pub record Removed (L k N : ℕ) (s : State) (p : Key) : Type 0 where
  pub formed : WellFormed L k N (removed s p)
  pub paged : pages_of (removed s p) ≡ pages_of s
  pub less : (r : Rec) → In r (records_of s) → r.key ≡ p → (g : Rec → Bool) → tally g (records_of s) ≡ tally g (records_of (removed s p)) + bit (g r)
  pub unchanged : tally (λ r. same p r.key) (records_of s) ≡ 0 → records_of (removed s p) ≡ records_of s

pub removed_formed : (L k N : ℕ) (s : State) (p : Key) → WellFormed L k N s → Removed L k N s p
removed_formed L k N none p h =
    record { formed = h; paged = refl; less = λ r m e g. let i = m.counted (λ _. true) tt in absurd (omega arith); unchanged = λ _. refl }
removed_formed L k N (some t) p h =
    let R = regions_per L k in
    let P = points_per L k in
    record {
      formed = record {
        domains = h.domains;
        size = h.size;
        numbered = subst (Numbered N) (sym (remove_pages t p)) h.numbered;
        shape = at_levels k R P (remove t p) (levels t - 1) (whole k) (remove_shaped k R P p t (levels t - 1) (whole k) h.shape);
      };
      paged = remove_pages t p;
      less = λ r m e g.
          let x = remove_gone k R P p t (levels t - 1) (whole k) h.shape (m.counted (λ q. same p q.key) (subst (λ q. T (same p q)) (sym e) (same_refl p))) in
          omega (arith, x.counts g, gone_is p (records t) (records (remove t p)) r g (key_once L k N (some t) p h) m e x);
      unchanged = remove_same t p;
    }
