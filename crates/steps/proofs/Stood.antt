-- From a printed state to what the steps need of its words, and back: its tree is held, its free pages are those that it does not use, and
-- words that hold a well-formed tree with all else blank are its printed form.
use mathlib.Core.Bool.{Bool, false}
use mathlib.Core.List.{List, []}
use mathlib.Core.Option.{none, some}
use mathlib.Core.Path.{◌≡◌, refl, sym, ap, ap₂, ◌∙◌, subst}
use Prim.Native.Nat.{ℕ, zero, suc, ◌+◌, ◌*◌, ◌-◌, ◌<◌, ◌≤◌}
use native.Mathlib.Omega.{arith}
use native.Mathlib.Nat.{mul-zero}
use lib.Dec.{T, eqb, eqb→eq}
use lib.ListN.{length, get_or}
use lib.Seq.{sets}
use borrow.Author.Tests.{eq-eqb, ne_eqb}
use Rattle.kdb.specs.Lists.{every, many, Each, pad}
use Rattle.kdb.specs.Box.{Box, within, solid}
use Rattle.kdb.specs.Tree.{Tree, leaf, node, Forest, fnil, fcons, State, boxes, pages, pages_f, pages_of}
use Rattle.kdb.specs.Steps.{free_of}
use Rattle.kdb.specs.Header.{Header, header_words, print_header, read_header, rooted}
use Rattle.kdb.specs.Pages.{Page, blank, points, regions, in_use, print_page, page}
use Rattle.kdb.specs.Shape.{Shaped, ShapedF, Numbered, WellFormed}
use Rattle.kdb.specs.Print.{or_page, page_of, page_of_f, page_at, header_of, printed}
use Rattle.kdb.proofs.Tests.{and_l, and_r, self}
use Rattle.kdb.proofs.Lists.{each_every}
use Rattle.kdb.proofs.Counts.{many_append, only_same, only_in, only_once}
use Rattle.kdb.proofs.Pages.{word_at_lem, pool_ext}
use Rattle.kdb.proofs.Views.{Seen, SeenF, seen_own, at, among, page_in, page_out, or_first, Under, under_key, under_length, tiles_under}
use Rattle.kdb.proofs.Print.{print_length, print_header_lem, print_page_lem}
use Rattle.kdb.proofs.Header.{head_says, print_over}
use Rattle.words.specs.Words.{word}
use Rattle.steps.specs.Machine.{head_in}
use Rattle.steps.proofs.Machine.{Wrote, wrote}
use Rattle.steps.proofs.Held.{Holds, HoldsF, Fits, FitsF, size_boxes}
use Rattle.steps.proofs.Claim.{Free}

-- a tree that is seen in v, where every page of it stands printed in s
module _ (L : ℕ) (v : ℕ → Page) (s : ℕ → List ℕ) where
  mutual
    held_seen : (t : Tree) → Seen v t → ((c : ℕ) → 1 ≤ many c (pages t) → s c ≡ print_page L (v c)) → Holds L s t
    held_seen (leaf p d rs) e h = h p (omega (arith, self p)) ∙ ap (print_page L) e
    held_seen (node p d f) e h = (h p (omega (arith, self p)) ∙ ap (print_page L) e.0, held_seen_f f e.1 (λ c i. h c (omega arith)))

    held_seen_f : (f : Forest) → SeenF v f → ((c : ℕ) → 1 ≤ many c (pages_f f) → s c ≡ print_page L (v c)) → HoldsF L s f
    held_seen_f fnil e h = tt
    held_seen_f (fcons b t f) e h =
        (held_seen t e.0 (λ c i. h c (omega (arith, many_append c (pages t) (pages_f f)))), held_seen_f f e.1 (λ c i. h c (omega (arith, many_append c (pages t) (pages_f f)))))

-- a tree that is held has its pages printed
module _ (L : ℕ) (s : ℕ → List ℕ) where
  mutual
    held_page : (t : Tree) → Holds L s t → (c : ℕ) → 1 ≤ many c (pages t) → s c ≡ print_page L (page_of t c)
    held_page (leaf p d rs) h c i =
        at c p (λ e. ap s e ∙ (h ∙ rw (eq-eqb c p e))) (λ e. absurd (let z : 1 ≤ 0 + 0 = rw e at i in omega arith))
    held_page (node p d f) h c i =
        at c p (λ e. ap s e ∙ (h.0 ∙ rw (eq-eqb c p e))) (λ e. let z : 1 ≤ 0 + many c (pages_f f) = rw e at i in held_page_f f h.1 c (omega arith) ∙ rw e)

    held_page_f : (f : Forest) → HoldsF L s f → (c : ℕ) → 1 ≤ many c (pages_f f) → s c ≡ print_page L (page_of_f f c)
    held_page_f fnil h c i = absurd (omega arith)
    held_page_f (fcons b t f) h c i =
        let a = many_append c (pages t) (pages_f f) in
        among c (pages t)
        (λ i. held_page t h.0 c i ∙ ap (print_page L) (sym (or_first (page_of t c) (page_of_f f c) (page_in t c i))))
        (λ z. held_page_f f h.1 c (omega arith) ∙ ap (λ u. print_page L (or_page u (page_of_f f c))) (sym (page_out t c z)))

-- the shape that the words hang on
module _ (k R P : ℕ) where
  mutual
    pub shaped_fits : (t : Tree) (n : ℕ) (r : Box) → Under k r → Shaped k R P t n r → Fits k R P t n
    shaped_fits (leaf p d rs) n r u h = (h.0, h.1.room, each_every (λ q. length q.key ≡ k) (λ q. within r q.key) rs (λ q i. under_key k r u q.key i) h.1.inside)
    shaped_fits (node p d f) zero r u h = absurd h
    shaped_fits (node p d f) (suc n) r u h =
        (omega (arith, h.0.room, size_boxes f), shaped_fits_f f n (tiles_under k r (boxes f) u h.0.tiled) h.0.tiled.solids h.1)

    shaped_fits_f : (f : Forest) (n : ℕ) → Each (Under k) (boxes f) → T (every solid (boxes f)) → ShapedF k R P f n → FitsF k R P f n
    shaped_fits_f fnil n u s h = tt
    shaped_fits_f (fcons b t f) n u s h =
        (under_length k b u.0 (and_l (solid b) _ s), shaped_fits t n b u.0 h.0, shaped_fits_f f n u.1 (and_r (solid b) _ s) h.1)

  -- a tree has one height
  mutual
    pub one_height : (t : Tree) (n m : ℕ) (r : Box) → Fits k R P t n → Shaped k R P t m r → m ≡ n
    one_height (leaf p d rs) n m r f h = h.0 ∙ sym f.0
    one_height (node p d f) zero m r i h = absurd i
    one_height (node p d f) (suc n) zero r i h = absurd h
    one_height (node p d f) (suc n) (suc m) r i h = ap suc (one_height_f f n m h.0.filled i.1 h.1)

    one_height_f : (f : Forest) (n m : ℕ) → 1 ≤ length (boxes f) → FitsF k R P f n → ShapedF k R P f m → m ≡ n
    one_height_f fnil n m l i h = absurd (omega arith)
    one_height_f (fcons b t f) n m l i h = one_height t n m b i.1 h.0

pub free_apart : (N : ℕ) (ps : List ℕ) → Numbered N ps → (c : ℕ) → many c ps + many c (free_of N ps) ≤ 1
free_apart N ps h c =
    let g : ℕ → Bool = λ c. eqb (many c ps) 0 in
    among c (free_of N ps)
    (λ i. let r = only_in g (N - 1) 1 c i in omega (arith, eqb→eq (many c ps) 0 r.2, only_once g (N - 1) 1 c))
    (λ z. omega (arith, h.once c))

-- whether a page is free, by its first word
in_use_word : (L : ℕ) → 4 ≤ L → (v : Page) → T (in_use v) → eqb (get_or (print_page L v) 0 0) 0 ≡ false
in_use_word L big blank u = absurd u
in_use_word L big (points d rs) u = refl
in_use_word L big (regions d es) u = refl

blank_word : (L : ℕ) → 4 ≤ L → get_or (pad L []) 0 0 ≡ 0
blank_word L big = let e : L ≡ suc (L - 1) = omega arith in ap (λ n. get_or (pad n []) 0 0) e

module _ (L k N : ℕ) (s : State) (w : List ℕ) (big : 5 ≤ L) (wf : WellFormed L k N s) (is : w ≡ printed L k N s) where
  stood_page : (j : ℕ) → 1 ≤ j → j < N → page L w j ≡ print_page L (page_at s j)
  stood_page j h l = ap (λ v. page L v j) is ∙ print_page_lem L k N s big wf j h l

  pub stood_head : page L w 0 ≡ print_header L (header_of k N s)
  stood_head = ap (λ v. page L v 0) is ∙ print_header_lem L k N s big wf

  pub stood_length : length w ≡ L * N
  stood_length = ap length is ∙ print_length L k N s big wf

  stood_out : (c : ℕ) → many c (pages_of s) ≡ 0 → page_at s c ≡ blank
  stood_out c z = go s z
    where
      go : (s : State) → many c (pages_of s) ≡ 0 → page_at s c ≡ blank
      go none z = refl
      go (some t) z = page_out t c z

  pub stood_blank : (c : ℕ) → 1 ≤ c → c < N → many c (pages_of s) ≡ 0 → page L w c ≡ pad L []
  stood_blank c h l z = stood_page c h l ∙ ap (print_page L) (stood_out c z)

  pub stood_free : Free L N w (free_of N (pages_of s))
  stood_free =
      let g : ℕ → Bool = λ c. eqb (many c (pages_of s)) 0 in
      record {
        is = only_same g (λ c. eqb (word L w c 0) 0) (N - 1) 1 (λ i a b. ap (λ m. eqb m 0) (sym (word_at_lem L w i 0 (omega arith))) ∙ kind i a (omega arith));
        zeros = λ c i. let r = only_in g (N - 1) 1 c i in stood_blank c r.0 (omega (arith, r.0, r.1)) (eqb→eq (many c (pages_of s)) 0 r.2);
      }
    where
      used : (s : State) (i : ℕ) → 1 ≤ many i (pages_of s) → T (in_use (page_at s i))
      used none i h = absurd (omega arith)
      used (some t) i h = page_in t i h

      kind : (i : ℕ) → 1 ≤ i → i < N → eqb (get_or (page L w i) 0 0) 0 ≡ eqb (many i (pages_of s)) 0
      kind i a b =
          among i (pages_of s)
          (λ h. ap (λ v. eqb (get_or v 0 0) 0) (stood_page i a b) ∙ (in_use_word L (omega arith) (page_at s i) (used s i h) ∙ sym (ne_eqb (many i (pages_of s)) 0 (λ z. omega arith))))
          (λ z. ap (λ v. eqb (get_or v 0 0) 0) (stood_blank i a b z) ∙ (ap (λ m. eqb m 0) (blank_word L (omega arith)) ∙ sym (eq-eqb (many i (pages_of s)) 0 z)))

pub stood_held : (L k N : ℕ) (t : Tree) (w : List ℕ) → 5 ≤ L → WellFormed L k N (some t) → w ≡ printed L k N (some t) → Holds L (page L w) t
stood_held L k N t w big wf is =
    held_seen L (page_of t) (page L w) t (seen_own (page_of t) t wf.numbered.once (λ c i. refl))
    (λ c i. let r = wf.numbered.inside c i in stood_page L k N (some t) w big wf is c r.0 r.1)

-- words that hold a well-formed tree, with its header and all other pages blank
pub stood_back : (L k N : ℕ) (t : Tree) (w : List ℕ) → 5 ≤ L → WellFormed L k N (some t) → length w ≡ L * N → page L w 0 ≡ print_header L (header_of k N (some t)) → Holds L (page L w) t
    → ((c : ℕ) → 1 ≤ c → c < N → many c (pages t) ≡ 0 → page L w c ≡ pad L []) → w ≡ printed L k N (some t)
stood_back L k N t w big wf long head held rest =
    pool_ext L N w (printed L k N (some t)) long (print_length L k N (some t) big wf) go
  where
    go : (c : ℕ) → c < N → page L w c ≡ page L (printed L k N (some t)) c
    go zero l = head ∙ sym (print_header_lem L k N (some t) big wf)
    go (suc c) l =
        among (suc c) (pages t)
        (λ i. held_page L (page L w) t held (suc c) i ∙ sym (print_page_lem L k N (some t) big wf (suc c) (omega arith) l))
        (λ z. rest (suc c) (omega arith) l z ∙ (ap (print_page L) (sym (page_out t (suc c) z)) ∙ sym (print_page_lem L k N (some t) big wf (suc c) (omega arith) l)))

-- another tree in the header
pub head_set : (L : ℕ) → 5 ≤ L → (w : List ℕ) (h : Header) → page L w 0 ≡ print_header L h → (r l m : ℕ) → Wrote L w 0 (print_header L (rooted h r l m)) (head_in w r l m)
unfolding head_in
head_set L big w h e r l m =
    let ws = header_words (rooted (read_header w) r l m) in
    let z : L * 0 + 0 ≡ 0 = omega (arith, mul-zero L) in
    let o = wrote L w 0 0 ws (omega arith) in
    let p : sets (page L w 0) 0 ws ≡ print_header L (rooted h r l m) = ap₂ (λ v g. sets v 0 (header_words (rooted g r l m))) e (head_says L big w h e) ∙ print_over L big h (rooted h r l m) in
    subst (λ i. Wrote L w 0 (print_header L (rooted h r l m)) (sets w i ws)) z (record { here = o.here ∙ p; there = o.there; long = o.long })
