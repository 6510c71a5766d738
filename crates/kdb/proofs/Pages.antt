-- Pages printed and read back. `read_page_lem`: a page that fits is read back from its words. `pool_ext`: a pool is its pages. The laws of
-- `page` here are the only ones that know at which word a page begins.
use mathlib.Core.List.{List, [], ◌∷◌, ◌++◌, map, append_assoc}
use mathlib.Core.Path.{◌≡◌, refl, sym, ap, ap₂, ◌∙◌}
use Prim.Native.Nat.{ℕ, zero, suc, ◌+◌, ◌-◌, ◌*◌, ◌<◌, ◌≤◌}
use native.Mathlib.Omega.{arith}
use native.Mathlib.Nat.{mul-suc, mul-zero, suc-mul, add-zero, mul-le-mul_left, le-div_iff_mul-le}
use lib.Dec.{leb, leb→le, nleb→lt}
use lib.ListN.{length, take, drop, get_or, set, length-append, length-take, length-drop, take-append-drop, length-map}
use lib.Seq.{sets, take_at, drop_at, get_or_at, drop-drop, take-take, get_or-take, get_or-drop, take-set-lt, take-set-le, drop-set-add, drop-set-lt, length-take-le}
use Rattle.kdb.specs.Lists.{Each, gather, pad, up_from}
use Rattle.kdb.specs.Box.{Box, sides}
use Rattle.kdb.specs.Tree.{Rec}
use Rattle.kdb.specs.Pages.{Ent, Page, blank, points, regions, points_per, regions_per, recs_in, ents_in, words_r, words_e, print_page, read_recs, read_ents, read_page, page}
use Rattle.kdb.proofs.Tests.{bool}
use Rattle.kdb.proofs.Lists.{each_map, drop_take, length_gather}
use Rattle.kdb.proofs.Stores.{length_pad, pad_tail}

-- n entries of d words each, one read by f from its first word on
abbrev reads {ℓ} : {A : Type ℓ} → ℕ → (List ℕ → A) → ℕ → List ℕ → List A
reads d f zero ws = []
reads d f (suc n) ws = f ws ∷ reads d f n (drop d ws)

module _ {ℓ} {A : Type ℓ} (d : ℕ) (f : List ℕ → A) where
  reads_length : (n : ℕ) (ws : List ℕ) → length (reads d f n ws) ≡ n
  reads_length zero ws = refl
  reads_length (suc n) ws = ap suc (reads_length n (drop d ws))

  reads_back : (ok : A → Type 0) (g : A → List ℕ) → ((a : A) (zs : List ℕ) → ok a → f (g a ++ zs) ≡ a) → ((a : A) → ok a → length (g a) ≡ d)
      → (l : List A) (zs : List ℕ) → Each ok l → reads d f (length l) (gather g l ++ zs) ≡ l
  reads_back ok g back long [] zs h = refl
  reads_back ok g back long (a ∷ l) zs h =
      let e : gather g (a ∷ l) ++ zs ≡ g a ++ (gather g l ++ zs) = append_assoc (g a) (gather g l) zs in
      ap (λ x. f x ∷ reads d f (length l) (drop d x)) e
      ∙ ap₂ ◌∷◌ (back a (gather g l ++ zs) h.0) (ap (reads d f (length l)) (drop_at (g a) (gather g l ++ zs) d (long a h.0)) ∙ reads_back ok g back long l zs h.1)

  reads_take : ((ws : List ℕ) (m : ℕ) → d ≤ m → f (take m ws) ≡ f ws) → (n m : ℕ) (ws : List ℕ) → n * d ≤ m → reads d f n (take m ws) ≡ reads d f n ws
  reads_take same zero m ws h = refl
  reads_take same (suc n) m ws h =
      let q = suc-mul n d in
      ap₂ ◌∷◌ (same ws m (omega arith)) (ap (reads d f n) (drop_take d m ws) ∙ reads_take same n (m - d) (drop d ws) (omega arith))

  reads_each : (ok : A → Type 0) → ((ws : List ℕ) → d ≤ length ws → ok (f ws)) → (n : ℕ) (ws : List ℕ) → n * d ≤ length ws → Each ok (reads d f n ws)
  reads_each ok is zero ws h = tt
  reads_each ok is (suc n) ws h =
      let q = suc-mul n d in
      (is ws (omega arith), reads_each ok is n (drop d ws) (let e = length-drop d ws in omega arith))

-- one record, one entry
abbrev rec_of : ℕ → List ℕ → Rec
rec_of k ws = record { key = take k ws; loc = get_or ws k 0 }

abbrev pub ent_of : ℕ → List ℕ → Ent
ent_of k ws = record { box = sides (take k ws) (take k (drop k ws)); child = get_or ws (2 * k) 0 }

recs_reads : (k n : ℕ) (ws : List ℕ) → read_recs k n ws ≡ reads (k + 1) (rec_of k) n ws
recs_reads k zero ws = refl
recs_reads k (suc n) ws = ap (λ l. rec_of k ws ∷ l) (recs_reads k n (drop (k + 1) ws))

ents_reads : (k n : ℕ) (ws : List ℕ) → read_ents k n ws ≡ reads (2 * k + 1) (ent_of k) n ws
ents_reads k zero ws = refl
ents_reads k (suc n) ws = ap (λ l. ent_of k ws ∷ l) (ents_reads k n (drop (2 * k + 1) ws))

rec_back : (k : ℕ) (r : Rec) (zs : List ℕ) → length r.key ≡ k → rec_of k (words_r r ++ zs) ≡ r
rec_back k r zs h =
    let e : words_r r ++ zs ≡ r.key ++ (r.loc ∷ zs) = append_assoc r.key (r.loc ∷ []) zs in
    ap (rec_of k) e ∙ ap₂ (λ (a : List ℕ) (b : ℕ). record { key = a; loc = b }) (take_at r.key (r.loc ∷ zs) k h) (get_or_at r.key r.loc zs 0 k h)

pub rec_length : (k : ℕ) (r : Rec) → length r.key ≡ k → length (words_r r) ≡ k + 1
rec_length k r h = length-append r.key (r.loc ∷ []) ∙ omega (arith, h)

abbrev pub lows : Box → List ℕ
lows b = map (λ s. s.lo) b

abbrev pub highs : Box → List ℕ
highs b = map (λ s. s.hi) b

sides_back : (b : Box) → sides (lows b) (highs b) ≡ b
sides_back [] = refl
sides_back (s ∷ b) = ap (λ c. s ∷ c) (sides_back b)

pub both_length : (k : ℕ) (b : Box) → length b ≡ k → length (lows b ++ highs b) ≡ 2 * k
both_length k b h = length-append (lows b) (highs b) ∙ omega (arith, length-map b (λ s. s.lo), length-map b (λ s. s.hi), h)

pub ent_back : (k : ℕ) (e : Ent) (zs : List ℕ) → length e.box ≡ k → ent_of k (words_e e ++ zs) ≡ e
ent_back k e zs h =
    let ls = lows e.box in
    let us = highs e.box in
    let p : words_e e ++ zs ≡ ls ++ (us ++ (e.child ∷ zs)) = append_assoc ls (us ++ (e.child ∷ [])) zs ∙ ap (λ l. ls ++ l) (append_assoc us (e.child ∷ []) zs) in
    let a : take k (ls ++ (us ++ (e.child ∷ zs))) ≡ ls = take_at ls (us ++ (e.child ∷ zs)) k (length-map e.box (λ s. s.lo) ∙ h) in
    let b : take k (drop k (ls ++ (us ++ (e.child ∷ zs)))) ≡ us =
    ap (take k) (drop_at ls (us ++ (e.child ∷ zs)) k (length-map e.box (λ s. s.lo) ∙ h)) ∙ take_at us (e.child ∷ zs) k (length-map e.box (λ s. s.hi) ∙ h) in
    let c : get_or (ls ++ (us ++ (e.child ∷ zs))) (2 * k) 0 ≡ e.child =
    ap (λ l. get_or l (2 * k) 0) (sym (append_assoc ls us (e.child ∷ zs))) ∙ get_or_at (ls ++ us) e.child zs 0 (2 * k) (both_length k e.box h) in
    ap (ent_of k) p ∙ ap₂ (λ (x : Box) (y : ℕ). record { box = x; child = y }) (ap₂ sides a b ∙ sides_back e.box) c

pub ent_length : (k : ℕ) (e : Ent) → length e.box ≡ k → length (words_e e) ≡ 2 * k + 1
ent_length k e h =
    ap length (sym (append_assoc (lows e.box) (highs e.box) (e.child ∷ []))) ∙ (length-append (lows e.box ++ highs e.box) (e.child ∷ []) ∙ omega (arith, both_length k e.box h))

-- the laws of reading, for records and for entries
module _ (k n : ℕ) where
  pub length_recs : (ws : List ℕ) → length (read_recs k n ws) ≡ n
  length_recs ws = ap length (recs_reads k n ws) ∙ reads_length (k + 1) (rec_of k) n ws

  pub length_ents : (ws : List ℕ) → length (read_ents k n ws) ≡ n
  length_ents ws = ap length (ents_reads k n ws) ∙ reads_length (2 * k + 1) (ent_of k) n ws

  pub recs_take : (m : ℕ) (ws : List ℕ) → n * (k + 1) ≤ m → read_recs k n (take m ws) ≡ read_recs k n ws
  recs_take m ws h =
      recs_reads k n (take m ws) ∙ (reads_take (k + 1) (rec_of k) same n m ws h ∙ sym (recs_reads k n ws))
    where
      same : (ws : List ℕ) (m : ℕ) → k + 1 ≤ m → rec_of k (take m ws) ≡ rec_of k ws
      same ws m l = ap₂ (λ (a : List ℕ) (b : ℕ). record { key = a; loc = b }) (take-take k m ws (omega arith)) (get_or-take m ws k 0 (omega arith))

  pub ents_take : (m : ℕ) (ws : List ℕ) → n * (2 * k + 1) ≤ m → read_ents k n (take m ws) ≡ read_ents k n ws
  ents_take m ws h =
      ents_reads k n (take m ws) ∙ (reads_take (2 * k + 1) (ent_of k) same n m ws h ∙ sym (ents_reads k n ws))
    where
      same : (ws : List ℕ) (m : ℕ) → 2 * k + 1 ≤ m → ent_of k (take m ws) ≡ ent_of k ws
      same ws m l =
          let u : take k (drop k (take m ws)) ≡ take k (drop k ws) = ap (take k) (drop_take k m ws) ∙ take-take k (m - k) (drop k ws) (omega arith) in
          ap₂ (λ (a : Box) (b : ℕ). record { box = a; child = b }) (ap₂ sides (take-take k m ws (omega arith)) u) (get_or-take m ws (2 * k) 0 (omega arith))

  pub recs_keys : (ws : List ℕ) → n * (k + 1) ≤ length ws → Each (λ r. length r.key ≡ k) (read_recs k n ws)
  recs_keys ws h = rw (recs_reads k n ws) (reads_each (k + 1) (rec_of k) (λ r. length r.key ≡ k) (λ ws l. length-take-le k ws (omega arith)) n ws h)

-- what is read from the words of records and of entries, with anything behind them
module _ (k : ℕ) where
  pub recs_back : (rs : List Rec) (zs : List ℕ) → Each (λ r. length r.key ≡ k) rs → read_recs k (length rs) (gather words_r rs ++ zs) ≡ rs
  recs_back rs zs h =
      recs_reads k (length rs) (gather words_r rs ++ zs) ∙ reads_back (k + 1) (rec_of k) (λ r. length r.key ≡ k) words_r (rec_back k) (rec_length k) rs zs h

  pub ents_back : (es : List Ent) (zs : List ℕ) → Each (λ e. length e.box ≡ k) es → read_ents k (length es) (gather words_e es ++ zs) ≡ es
  ents_back es zs h =
      ents_reads k (length es) (gather words_e es ++ zs) ∙ reads_back (2 * k + 1) (ent_of k) (λ e. length e.box ≡ k) words_e (ent_back k) (ent_length k) es zs h

-- a page that fits: keys and regions of k domains, counts within the room
pub record FitsPage (L k : ℕ) (v : Page) : Type 0 where
  pub keys : Each (λ r. length r.key ≡ k) (recs_in v)
  pub ends : Each (λ e. length e.box ≡ k) (ents_in v)
  pub point_room : length (recs_in v) ≤ points_per L k
  pub region_room : length (ents_in v) ≤ regions_per L k

pub points_fit : (L k n : ℕ) → n ≤ points_per L k → n * (k + 1) ≤ L - 4
points_fit L k n h = let z : 0 < k + 1 = omega arith in (le-div_iff_mul-le z).0 h

pub regions_fit : (L k n : ℕ) → n ≤ regions_per L k → n * (2 * k + 1) ≤ L - 4
regions_fit L k n h = let z : 0 < 2 * k + 1 = omega arith in (le-div_iff_mul-le z).0 h

pub page_length : (L : ℕ) (v : Page) → 4 ≤ L → length (print_page L v) ≡ L
page_length L blank h = length_pad L []
page_length L (points d rs) h = omega (arith, length_pad (L - 4) (gather words_r rs))
page_length L (regions d es) h = omega (arith, length_pad (L - 4) (gather words_e es))

zero_word : (L k : ℕ) → read_page k (pad L []) ≡ blank
zero_word zero k = refl
zero_word (suc L) k = refl

-- a page printed and read back
pub read_page_lem : (L k : ℕ) (v : Page) → FitsPage L k v → read_page k (print_page L v) ≡ v
read_page_lem L k blank f = zero_word L k
read_page_lem L k (points d rs) f =
    let ws = gather words_r rs in
    let long : length ws ≡ length rs * (k + 1) = length_gather words_r (k + 1) rs (each_map (λ r. length r.key ≡ k) (λ r. length (words_r r) ≡ k + 1) rs (rec_length k) f.keys) in
    let fit : length rs * (k + 1) ≤ L - 4 = points_fit L k (length rs) f.point_room in
    let zs = pad (L - 4 - length ws) [] in
    ap (points d)
    (ap (read_recs k (length rs)) (pad_tail (L - 4) ws (omega arith)) ∙ recs_back k rs zs f.keys)
read_page_lem L k (regions d es) f =
    let ws = gather words_e es in
    let long : length ws ≡ length es * (2 * k + 1) = length_gather words_e (2 * k + 1) es (each_map (λ e. length e.box ≡ k) (λ e. length (words_e e) ≡ 2 * k + 1) es (ent_length k) f.ends) in
    let fit : length es * (2 * k + 1) ≤ L - 4 = regions_fit L k (length es) f.region_room in
    let zs = pad (L - 4 - length ws) [] in
    ap (regions d)
    (ap (read_ents k (length es)) (pad_tail (L - 4) ws (omega arith)) ∙ ents_back k es zs f.ends)

-- pages do not overlap
apart : (L c j : ℕ) → c < j → L * c + L ≤ L * j
apart L c j h = omega (arith, mul-suc L c, mul-le-mul_left L h)

module _ (L : ℕ) where
  page_suc : (w : List ℕ) (c : ℕ) → page L w (suc c) ≡ page L (drop L w) c
  page_suc w c = let e : L * suc c ≡ L + L * c = omega (arith, mul-suc L c) in ap (λ i. take L (drop i w)) e ∙ ap (take L) (sym (drop-drop (L * c) L w))

  page_zero : (w : List ℕ) → page L w 0 ≡ take L w
  page_zero w = ap (λ i. take L (drop i w)) (mul-zero L)

  -- the first page and the others, of a first page and others
  pub page_first : (h w : List ℕ) → length h ≡ L → page L (h ++ w) 0 ≡ h
  page_first h w l = page_zero (h ++ w) ∙ take_at h w L l

  pub page_next : (h w : List ℕ) (c : ℕ) → length h ≡ L → page L (h ++ w) (suc c) ≡ page L w c
  page_next h w c l = page_suc (h ++ w) c ∙ ap (λ v. page L v c) (drop_at h w L l)

  pub page_gather : (g : ℕ → List ℕ) → ((i : ℕ) → length (g i) ≡ L) → (n a c : ℕ) → c < n → page L (gather g (up_from n a)) c ≡ g (a + c)
  page_gather g h zero a c l = absurd (omega arith)
  page_gather g h (suc n) a zero l = page_first (g a) (gather g (up_from n (suc a))) (h a) ∙ ap g (sym (add-zero a))
  page_gather g h (suc n) a (suc c) l =
      let e : suc a + c ≡ a + suc c = omega arith in
      page_next (g a) (gather g (up_from n (suc a))) c (h a) ∙ (page_gather g h n (suc a) c (omega arith) ∙ ap g e)

  pub length_pages : (g : ℕ → List ℕ) → ((i : ℕ) → length (g i) ≡ L) → (n a : ℕ) → length (gather g (up_from n a)) ≡ L * n
  length_pages g h zero a = sym (mul-zero L)
  length_pages g h (suc n) a = length-append (g a) (gather g (up_from n (suc a))) ∙ omega (arith, h a, length_pages g h n (suc a), mul-suc L n)

  pub page_full : (w : List ℕ) (n c : ℕ) → length w ≡ L * n → c < n → length (page L w c) ≡ L
  page_full w n c h l = length-take L (drop (L * c) w) ∙ omega (arith, length-drop (L * c) w, apart L c n l, h)

  -- a pool is its pages
  pub pool_ext : (n : ℕ) (w v : List ℕ) → length w ≡ L * n → length v ≡ L * n → ((c : ℕ) → c < n → page L w c ≡ page L v c) → w ≡ v
  pool_ext zero w v h g e = let z = mul-zero L in empty w (omega arith) ∙ sym (empty v (omega arith))
    where
      empty : (l : List ℕ) → length l ≡ 0 → l ≡ []
      empty [] h = refl
      empty (a ∷ l) h = absurd (omega arith)
  pool_ext (suc n) w v h g e =
      let q = mul-suc L n in
      let first : take L w ≡ take L v = sym (page_zero w) ∙ (e 0 (omega arith) ∙ page_zero v) in
      let others : drop L w ≡ drop L v =
      pool_ext n (drop L w) (drop L v) (length-drop L w ∙ omega arith) (length-drop L v ∙ omega arith)
      (λ c l. sym (page_suc w c) ∙ (e (suc c) (omega arith) ∙ page_suc v c)) in
      sym (take-append-drop L w) ∙ (ap₂ ◌++◌ first others ∙ take-append-drop L v)

  -- words put into a page
  page_set : (w : List ℕ) (c i v : ℕ) → i < L → page L (set w (L * c + i) v) c ≡ set (page L w c) i v
  page_set w c i v h = ap (take L) (drop-set-add (L * c) w i v) ∙ take-set-lt L (drop (L * c) w) i v h

  page_set_other : (w : List ℕ) (c i v j : ℕ) → i < L → (j ≡ c → ⊥) → page L (set w (L * c + i) v) j ≡ page L w j
  page_set_other w c i v j h n =
      bool (leb c j)
      (λ t. let l = leb→le c j t in let a = apart L c j (omega arith) in ap (take L) (drop-set-lt (L * j) w (L * c + i) v (omega arith)))
      (λ t. let l = nleb→lt c j t in let a = apart L j c l in
      let e : L * c + i ≡ L * j + (L * c + i - L * j) = omega arith in
      ap (λ m. take L (drop (L * j) (set w m v))) e
      ∙ (ap (take L) (drop-set-add (L * j) w (L * c + i - L * j) v) ∙ take-set-le L (drop (L * j) w) (L * c + i - L * j) v (omega arith)))

  pub page_sets : (w : List ℕ) (c i : ℕ) (ys : List ℕ) → i + length ys ≤ L → page L (sets w (L * c + i) ys) c ≡ sets (page L w c) i ys
  page_sets w c i [] h = refl
  page_sets w c i (y ∷ ys) h =
      let e : suc (L * c + i) ≡ L * c + suc i = omega arith in
      ap (λ m. page L (sets (set w (L * c + i) y) m ys) c) e
      ∙ (page_sets (set w (L * c + i) y) c (suc i) ys (omega arith) ∙ ap (λ p. sets p (suc i) ys) (page_set w c i y (omega arith)))

  pub page_sets_other : (w : List ℕ) (c i : ℕ) (ys : List ℕ) (j : ℕ) → i + length ys ≤ L → (j ≡ c → ⊥) → page L (sets w (L * c + i) ys) j ≡ page L w j
  page_sets_other w c i [] j h n = refl
  page_sets_other w c i (y ∷ ys) j h n =
      let e : suc (L * c + i) ≡ L * c + suc i = omega arith in
      ap (λ m. page L (sets (set w (L * c + i) y) m ys) j) e
      ∙ (page_sets_other (set w (L * c + i) y) c (suc i) ys j (omega arith) n ∙ page_set_other w c i y j (omega arith) n)

  -- a word of a page as a word of the pool
  pub word_at_lem : (w : List ℕ) (c i : ℕ) → i < L → get_or (page L w c) i 0 ≡ get_or w (L * c + i) 0
  word_at_lem w c i h = get_or-take L (drop (L * c) w) i 0 h ∙ get_or-drop (L * c) w i 0
