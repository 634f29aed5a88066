-- The number of a word's two bytes tells its kind.
use Rattle.std.specs.Prelude.{Bool, true, false, cond, List, [], ◌∷◌, ◌++◌, ◌≡◌, refl, ℕ, ◌<◌, eqb, length, get_or}
use Rattle.std.proofs.Math.Option.{Option, none, some}
use Rattle.std.proofs.Common.{◌∙◌, ap, arith, eq-eqb, ne_eqb}
use Rattle.spec_base.specs.Basic.{first}
use Rattle.spec_text.specs.declared.LineKind.{LineKind}
use Rattle.spec_text.specs.declared.LineKind.TheVariants.{Rl, Fk, Pr, St, Lo, Br, El, En, Li}
use Rattle.spec_text.specs.declared.StatementKind.TheVariants.{Is, Ks, Ps, Ku, Pu, Kd, Pd, Kl}
use Rattle.spec_text.specs.Text.{same, word_of, kinds, kind_of}
use Rattle.law_text.specs.TextLaws.{same_equal, word_two}
use Rattle.text_fields.specs.FieldLaws.{kind_word_lem}
use Rattle.text_fields.specs.Word.{two_bytes, kind_by}

-- words of two bytes with the same number are the same
same_word : (v w : List ℕ) → length v ≡ 2 → length w ≡ 2 → get_or v 0 0 < 256 → get_or w 0 0 < 256 → two_bytes v ≡ two_bytes w → v ≡ w
same_word [] w e f h i q = absurd (omega arith)
same_word (a ∷ []) w e f h i q = absurd (omega arith)
same_word (a ∷ b ∷ []) [] e f h i q = absurd (omega arith)
same_word (a ∷ b ∷ []) (x ∷ []) e f h i q = absurd (omega arith)
same_word (a ∷ b ∷ []) (x ∷ y ∷ []) e f h i q =
    let left : a ≡ x = omega arith in
    let right : b ≡ y = omega arith in
    cc
same_word (a ∷ b ∷ []) (x ∷ y ∷ z ∷ w) e f h i q = absurd (omega arith)
same_word (a ∷ b ∷ d ∷ v) w e f h i q = absurd (omega arith)

-- the word of a kind is its own
pub kind_of_word : (k : LineKind) → (kind_of (word_of k) ≡ some k) × (get_or (word_of k) 0 0 < 256)
unfolding kind_of kinds word_of same
kind_of_word Rl = (refl, omega arith)
kind_of_word Fk = (refl, omega arith)
kind_of_word Pr = (refl, omega arith)
kind_of_word (St Is) = (refl, omega arith)
kind_of_word (St Ks) = (refl, omega arith)
kind_of_word (St Ps) = (refl, omega arith)
kind_of_word (St Ku) = (refl, omega arith)
kind_of_word (St Pu) = (refl, omega arith)
kind_of_word (St Kd) = (refl, omega arith)
kind_of_word (St Pd) = (refl, omega arith)
kind_of_word (St Kl) = (refl, omega arith)
kind_of_word Lo = (refl, omega arith)
kind_of_word Br = (refl, omega arith)
kind_of_word El = (refl, omega arith)
kind_of_word En = (refl, omega arith)
kind_of_word Li = (refl, omega arith)

same_self : (l : List ℕ) → same l l ≡ true
unfolding same
same_self [] = refl
same_self (a ∷ l) = rw (eq-eqb a a refl) (same_self l)

-- a word of two bytes has a kind's number exactly if it is the kind's word
same_number : (word : List ℕ) → length word ≡ 2 → get_or word 0 0 < 256 → (k : LineKind) (t : Bool) → same word (word_of k) ≡ t
    → eqb (two_bytes word) (two_bytes (word_of k)) ≡ t
same_number word e h k true q = eq-eqb _ _ (ap two_bytes (same_equal word (word_of k) q))
same_number word e h k false q =
    ne_eqb _ _ (λ n. other (same_word word (word_of k) e (word_two k) h (kind_of_word k).1 n))
  where
    other : word ≡ word_of k → ⊥
    other n =
        let same_yet : same word (word_of k) ≡ true = rw n (same_self (word_of k)) in
        let z : ◌≡◌ {A = ℕ} 0 1 = cc in
        omega arith

kinds_number : (word : List ℕ) → length word ≡ 2 → get_or word 0 0 < 256 → (among : List LineKind)
    → kind_by (two_bytes word) among ≡ first (λ k. same word (word_of k)) among
unfolding kind_by
kinds_number word e h [] = refl
kinds_number word e h (k ∷ among) =
    rw (same_number word e h k (same word (word_of k)) refl)
    (ap (cond (same word (word_of k)) (some k)) (kinds_number word e h among))

-- the kind of a word of two bytes is the one that its number tells
pub kind_number_lem : (word : List ℕ) → length word ≡ 2 → get_or word 0 0 < 256 → kind_by (two_bytes word) kinds ≡ kind_of word
unfolding kind_of
kind_number_lem word e h = kinds_number word e h kinds

-- a number that is none of the numbers of these kinds, after what is known besides
unfoldable pub Missed : Type 0 → ℕ → List LineKind → Type 0
Missed Besides n [] = Besides
Missed Besides n (k ∷ among) = Missed (Besides × (n ≡ two_bytes (word_of k) → ⊥)) n among

-- kinds that a number misses can be passed over
pub missed : (Besides : Type 0) (n : ℕ) (among others : List LineKind) → Missed Besides n among
    → Besides × (kind_by n (among ++ others) ≡ kind_by n others)
unfolding Missed kind_by
missed Besides n [] others m = (m, refl)
missed Besides n (k ∷ among) others m =
    let known = missed (Besides × (n ≡ two_bytes (word_of k) → ⊥)) n among others m in
    (known.0.0, rw (ne_eqb n (two_bytes (word_of k)) known.0.1) known.1)

-- bytes that are not two are no kind's word
pub kind_length : (word : List ℕ) → (length word ≡ 2 → ⊥) → kind_of word ≡ none
kind_length word other = go (kind_of word) refl
  where
    go : (o : Option LineKind) → kind_of word ≡ o → kind_of word ≡ none
    go none e = e
    go (some k) e = absurd (other (ap length (kind_word_lem word e) ∙ word_two k))
