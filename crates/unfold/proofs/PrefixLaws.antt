-- The words for the runs in the first cells of an array.
use mathlib.Core.List.{List}
use mathlib.Core.Path.{◌≡◌, sym, ap, ◌∙◌}
use Prim.Native.Nat.{ℕ, ◌≤◌, ◌<◌}
use native.Mathlib.Decide.{ℕ_discrete}
use native.Mathlib.Omega.{arith}
use lib.ListN.{length, take, length-take}
use Rattle.unfold_laws.specs.declared.UnfoldingTotals.{UnfoldingTotals}
use Rattle.unfold_laws.specs.CountEnds.{count_from}
use Rattle.unfold_count.specs.CountWords.{count_word, count_words, Held, Measured}
use Rattle.unfold_count.proofs.WordLaws.{words_held, none_held}
use Rattle.unfold.specs.Laid.{Countable}
use Rattle.value_tables.specs.TableLaws.{told_length}

pub prefix_many : (n : ℕ) (l : List ℕ) → n ≤ length l → n ≡ length (take n l)
prefix_many n l h = omega (arith, length-take n l)

words_many : (codes : List ℕ) → length (count_words codes) ≡ length codes
unfolding count_words
words_many codes = told_length (λ at. count_word (count_from codes at)) (length codes)

-- the first cells, so many as there are lines or none
pub first_countable : (codes : List ℕ) (n m : ℕ) → n ≡ length codes → m ≤ 1616 → ((m ≡ 0 → ⊥) → m ≡ n) → (cells : List ℕ) → m ≤ length cells
    → Countable codes (take m cells)
first_countable codes n m many fits all cells room =
    let first = prefix_many m cells room in
    record { short = omega arith; all = λ some. sym first ∙ all (λ z. some (sym first ∙ z)) ∙ many }

module _ (codes before : List ℕ) (room : Countable codes before) (t : UnfoldingTotals) (area : List ℕ) (m : Measured codes before t area) where
  both : (Held codes area 0) × (length area ≡ length before)
  both = go (ℕ_discrete (length before) (length codes))
    where
      go : Dec (length before ≡ length codes) → (Held codes area 0) × (length area ≡ length before)
      go (yes e) =
          let small : length codes < 2048 = omega (arith, room.short) in
          let filled = m.words e small in
          (words_held codes area filled small, ap length filled ∙ words_many codes ∙ sym e)
      go (no other) =
          let kept = m.kept (λ e small. other e) in
          let none : length before ≡ 0 = stays (ℕ_discrete (length before) 0) other in
          (none_held codes area (ap length kept ∙ none), ap length kept)
        where
          stays : Dec (length before ≡ 0) → (length before ≡ length codes → ⊥) → length before ≡ 0
          stays (yes z) other = z
          stays (no some) other = absurd (other (room.all some))

  -- what stands after the measuring is held
  pub measured_held : Held codes area 0
  measured_held = both.0

  pub measured_many : length area ≡ length before
  measured_many = both.1
