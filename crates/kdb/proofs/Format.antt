-- A formatted pool is the printed form of the state with no tree; and its words one by one.
use mathlib.Core.List.{List, ◌∷◌, ◌++◌}
use mathlib.Core.Option.{none}
use mathlib.Core.Path.{◌≡◌, refl, sym, ap, ap₂, ◌∙◌, subst}
use Prim.Native.Nat.{ℕ, zero, suc, ◌+◌, ◌-◌, ◌*◌, ◌≤◌}
use native.Mathlib.Omega.{arith}
use native.Mathlib.Nat.{mul-suc, mul-zero}
use lib.Dec.{T, leb, leb→le}
use lib.ListN.{length, get_or, replicate, length-replicate, replicate-append-replicate}
use Rattle.kdb.specs.Lists.{gather, up_from}
use Rattle.kdb.specs.Header.{print_header}
use Rattle.kdb.specs.Pages.{blank, print_page}
use Rattle.kdb.specs.Shape.{WellFormed}
use Rattle.kdb.specs.Pool.{pages_in, good_length}
use Rattle.kdb.specs.Print.{header_of, printed}
use Rattle.kdb.specs.Calls.{L, good_domains, formatted}
use Rattle.kdb.specs.Demands.{Formatted}
use Rattle.kdb.proofs.Tests.{and_l, and_r}
use Rattle.kdb.proofs.Stores.{pad_nil}
use Rattle.kdb.proofs.Pool.{length_iff}

-- n free pages
free_pages : (M n a : ℕ) → gather (λ c. print_page M blank) (up_from n a) ≡ replicate (M * n) 0
free_pages M zero a = ap (λ m. replicate m 0) (sym (mul-zero M))
free_pages M (suc n) a =
    let e : M + M * n ≡ M * suc n = omega (arith, mul-suc M n) in
    ap₂ ◌++◌ (pad_nil M) (free_pages M n (suc a)) ∙ (replicate-append-replicate M (M * n) 0 ∙ ap (λ m. replicate m 0) e)

-- K, N, and zeros
pub formatted_words : (w : List ℕ) (k : ℕ) → T (good_length L w) → formatted w k ≡ k ∷ pages_in L w ∷ replicate (length w - 2) 0
formatted_words w k h =
    let g = (length_iff L w).0 h in
    let e : length w ≡ suc (suc (suc (suc (suc (length w - 5))))) = omega (arith, g.long, g.least) in
    let d : suc (suc (suc (length w - 5))) ≡ length w - 2 = omega (arith, g.long, g.least) in
    ap (λ n. print_header n (header_of k (pages_in L w) none)) e
    ∙ (ap (λ l. k ∷ pages_in L w ∷ 0 ∷ 0 ∷ 0 ∷ l) (pad_nil (length w - 5)) ∙ ap (λ n. k ∷ pages_in L w ∷ replicate n 0) d)

pub formatted_printed : (w : List ℕ) (k : ℕ) → T (good_length L w) → formatted w k ≡ printed L k (pages_in L w) none
formatted_printed w k h =
    let g = (length_iff L w).0 h in
    let N = pages_in L w in
    let e : L - 2 + L * (N - 1) ≡ length w - 2 = omega (arith, g.long, g.least) in
    formatted_words w k h
    ∙ sym (ap₂ (λ a b. k ∷ N ∷ (a ++ b)) (pad_nil (L - 2)) (free_pages L (N - 1) 1) ∙ (ap (λ l. k ∷ N ∷ l) (replicate-append-replicate (L - 2) (L * (N - 1)) 0) ∙ ap (λ m. k ∷ N ∷ replicate m 0) e))

pub none_formed : (w : List ℕ) (k : ℕ) → T (good_length L w) → T (good_domains k) → WellFormed L k (pages_in L w) none
none_formed w k h d =
    let g = (length_iff L w).0 h in
    record {
      domains = (leb→le 1 k (and_l (leb 1 k) _ d), leb→le k 4 (and_r (leb 1 k) _ d));
      size = (g.least, g.most);
      numbered = record { inside = λ c i. absurd (omega arith); once = λ c. omega arith };
      shape = tt;
    }

-- a formatted pool, word by word
no_words : (n i : ℕ) → ◌≡◌ {A = ℕ} (get_or (replicate n 0) i 0) 0
no_words zero i = refl
no_words (suc n) zero = refl
no_words (suc n) (suc i) = no_words n i

pub formatted_is : (w : List ℕ) (k : ℕ) → T (good_length L w) → Formatted w k (formatted w k)
formatted_is w k h =
    let g = (length_iff L w).0 h in
    subst (Formatted w k) (sym (formatted_words w k h))
    (record { long = omega (arith, length-replicate {A = ℕ} (length w - 2) 0, g.long, g.least); domains = refl; pages = sym g.long; zeros = later })
  where
    later : (i : ℕ) → 2 ≤ i → get_or (k ∷ pages_in L w ∷ replicate (length w - 2) 0) i 0 ≡ 0
    later zero h = absurd (omega arith)
    later (suc zero) h = absurd (omega arith)
    later (suc (suc i)) h = no_words (length w - 2) i
