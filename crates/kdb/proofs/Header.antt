-- A header is read back from its words, and its words are those read.
use mathlib.Core.List.{List, [], ◌∷◌}
use mathlib.Core.Path.{◌≡◌, sym, ap, ◌∙◌, subst}
use Prim.Native.Nat.{ℕ, suc, ◌+◌, ◌-◌, ◌*◌, ◌≤◌, ◌<◌}
use native.Mathlib.Omega.{arith}
use native.Mathlib.Nat.{mul-zero}
use lib.Dec.{T, eqb}
use lib.ListN.{length, drop, get_or, length-drop}
use lib.Seq.{sets}
use Rattle.kdb.specs.Lists.{every, pad}
use Rattle.kdb.specs.Pages.{page}
use Rattle.kdb.specs.Header.{Header, header_words, print_header, read_header}
use Rattle.kdb.proofs.Stores.{zeros_pad, pad_zeros}
use Rattle.kdb.proofs.Pages.{word_at_lem}

module _ (L : ℕ) (big : 5 ≤ L) where
  -- the words, one by one
  spelt : (h : Header) → print_header L h ≡ h.domains ∷ h.pages ∷ h.root ∷ h.levels ∷ h.count ∷ pad (L - 5) []
  spelt h = let e : L ≡ suc (suc (suc (suc (suc (L - 5))))) = omega arith in ap (λ n. pad n (header_words h)) e

  pub read_print : (h : Header) → read_header (print_header L h) ≡ h
  read_print h = ap read_header (spelt h)

  pub head_page : (w : List ℕ) → read_header (page L w 0) ≡ read_header w
  head_page w = rw (word 0 (omega arith), word 1 (omega arith), word 2 (omega arith), word 3 (omega arith), word 4 (omega arith))
    where
      word : (i : ℕ) → i < 5 → get_or (page L w 0) i 0 ≡ get_or w i 0
      word i h = let e : L * 0 + i ≡ i = omega (arith, mul-zero L) in word_at_lem L w 0 i (omega arith) ∙ ap (λ m. get_or w m 0) e

  -- what words say whose page 0 is printed
  pub head_says : (w : List ℕ) (h : Header) → page L w 0 ≡ print_header L h → read_header w ≡ h
  head_says w h e = sym (head_page w) ∙ (ap read_header e ∙ read_print h)

  pub print_zeros : (h : Header) → T (every (eqb 0) (drop 5 (print_header L h)))
  print_zeros h = subst (λ l. T (every (eqb 0) (drop 5 l))) (sym (spelt h)) (pad_zeros (L - 5))

  -- the words of a page whose rest is zero are those of the header that they say
  pub print_read : (l : List ℕ) → length l ≡ L → T (every (eqb 0) (drop 5 l)) → l ≡ print_header L (read_header l)
  print_read l e z = five l (omega arith) (zeros_pad (drop 5 l) (L - 5) (length-drop 5 l ∙ omega arith) z) ∙ sym (spelt (read_header l))
    where
      five : (l : List ℕ) → 5 ≤ length l → drop 5 l ≡ pad (L - 5) [] → l ≡ get_or l 0 0 ∷ get_or l 1 0 ∷ get_or l 2 0 ∷ get_or l 3 0 ∷ get_or l 4 0 ∷ pad (L - 5) []
      five [] h z = absurd (omega arith)
      five (a ∷ []) h z = absurd (omega arith)
      five (a ∷ b ∷ []) h z = absurd (omega arith)
      five (a ∷ b ∷ c ∷ []) h z = absurd (omega arith)
      five (a ∷ b ∷ c ∷ d ∷ []) h z = absurd (omega arith)
      five (a ∷ b ∷ c ∷ d ∷ e ∷ l) h z = ap (λ r. a ∷ b ∷ c ∷ d ∷ e ∷ r) z

  -- a header printed over another
  pub print_over : (g h : Header) → sets (print_header L g) 0 (header_words h) ≡ print_header L h
  print_over g h = ap (λ v. sets v 0 (header_words h)) (spelt g) ∙ sym (spelt h)
