-- The word of the keys that shield a place, gathered link by link.
use Rattle.std.specs.Prelude.{◌≡◌, refl, Bool, true, false, cond, ◌&&◌, ◌||◌, ℕ, ◌^◌, ◌<◌, eqb, ltb, take}
use Rattle.std.proofs.Common.{sym, ap, ◌∙◌, arith, eq-eqb, ne_eqb, ltb-true, ltb-false}
use mathlib.Core.List.{List, [], ◌∷◌, Memᴰ}
use Rattle.std.proofs.Math.Decide.{ℕ_discrete}
use Rattle.std.specs.Int.Bits.{bit_or}
use Rattle.std.proofs.lemmas.Nat.{or_lt}
use Rattle.std.proofs.Math.Pow.{pow-lt}
use Rattle.spec_base.specs.Basic.{any, has}
use Rattle.law_base.specs.SetLaws.{has_empty, has_bit_or, has_bit, words_equal}
use Rattle.spec_graph.specs.Program.{Link}
use Rattle.spec_graph.specs.Edge.{guarded_near, guarded_far, Place, at}
use Rattle.unfold_laws.specs.Seen.{seen_at}
use Rattle.place_row.specs.RowTable.{word_of}
use Rattle.place_row.specs.RowTableLaws.{word_of_small, word_of_has}
use Rattle.place_laws.specs.Guarded.{IdsSmall, Marked, near_seen, far_marked}

-- a test of equality may be turned round
pub eqb_comm : (a b : ℕ) → eqb a b ≡ eqb b a
eqb_comm a b = flip (ℕ_discrete a b)
  where
    flip : Dec (a ≡ b) → eqb a b ≡ eqb b a
    flip (yes e) = eq-eqb a b e ∙ sym (eq-eqb b a (sym e))
    flip (no d) = ne_eqb a b d ∙ sym (ne_eqb b a (λ e. d (sym e)))

-- E3: a link of this child whose parent is in a word (of what is seen, or of what is marked) adds its key
unfoldable pub with_link : ℕ → ℕ → Link → ℕ → ℕ
with_link child parents l word =
    cond (eqb l.child child && has parents l.parent && ltb l.key 32) (bit_or word (2 ^ l.key)) word

-- the keys of links, added to a word
unfoldable pub keys_of : ℕ → ℕ → List Link → ℕ → ℕ
keys_of child parents [] word = word
keys_of child parents (l ∷ links) word = keys_of child parents links (with_link child parents l word)

pub with_link_small : (child parents : ℕ) (l : Link) (word : ℕ) → word < 2 ^ 32 → with_link child parents l word < 2 ^ 32
unfolding with_link
with_link_small child parents l word h = go (eqb l.child child) (has parents l.parent) (ltb l.key 32) refl
  where
    go : (a b c : Bool) → ltb l.key 32 ≡ c → cond (a && b && c) (bit_or word (2 ^ l.key)) word < 2 ^ 32
    go true true true e = or_lt 32 word (2 ^ l.key) h (pow-lt (ltb-true l.key 32 e))
    go true true false e = h
    go true false c e = h
    go false b c e = h

pub keys_of_small : (child parents : ℕ) (links : List Link) (word : ℕ) → word < 2 ^ 32 → keys_of child parents links word < 2 ^ 32
unfolding keys_of
keys_of_small child parents [] word h = h
keys_of_small child parents (l ∷ links) word h =
    keys_of_small child parents links (with_link child parents l word) (with_link_small child parents l word h)

with_link_has : (child parents : ℕ) (l : Link) (word f : ℕ) → f < 32
    → has (with_link child parents l word) f ≡ has word f || (eqb l.key f && (eqb l.child child && has parents l.parent))
unfolding with_link
with_link_has child parents l word f h = go (eqb l.child child) (has parents l.parent) (ltb l.key 32) refl
  where
    nothing : (a b : Bool) → b ≡ false → a ≡ a || b
    nothing true b e = refl
    nothing false b e = sym e

    ends : (b : Bool) → b && false ≡ false
    ends true = refl
    ends false = refl

    whole : (b : Bool) → b ≡ b && true
    whole true = refl
    whole false = refl

    go : (a b c : Bool) → ltb l.key 32 ≡ c
        → has (cond (a && b && c) (bit_or word (2 ^ l.key)) word) f ≡ has word f || (eqb l.key f && (a && b))
    go true true true e =
        has_bit_or word (2 ^ l.key) f ∙ ap (λ (b : Bool). has word f || b) (has_bit l.key f ∙ eqb_comm f l.key ∙ whole (eqb l.key f))
    go true true false e =
        let big = ltb-false l.key 32 e in
        nothing (has word f) _ (ap (λ (b : Bool). b && true) (ne_eqb l.key f (λ d. omega arith)))
    go true false c e = nothing (has word f) _ (ends (eqb l.key f))
    go false b c e = nothing (has word f) _ (ends (eqb l.key f))

keys_of_has : (child parents : ℕ) (links : List Link) (word f : ℕ) → f < 32
    → has (keys_of child parents links word) f
    ≡ has word f || any (λ l. eqb l.key f && (eqb l.child child && has parents l.parent)) links
unfolding keys_of
keys_of_has child parents [] word f h = end (has word f)
  where
    end : (b : Bool) → b ≡ b || false
    end true = refl
    end false = refl
keys_of_has child parents (l ∷ links) word f h =
    keys_of_has child parents links (with_link child parents l word) f h
    ∙ ap (λ (b : Bool). b || any (λ l. eqb l.key f && (eqb l.child child && has parents l.parent)) links)
    (with_link_has child parents l word f h)
    ∙ regroup (has word f) _ _
  where
    regroup : (a b c : Bool) → (a || b) || c ≡ a || (b || c)
    regroup true b c = refl
    regroup false b c = refl

-- the keys gathered from links are those that pass a test, where the test asks the links for them
keys_word : (child parents : ℕ) (links : List Link) (test : ℕ → Bool)
    → ((f : ℕ) → test f ≡ any (λ l. eqb l.key f && (eqb l.child child && has parents l.parent)) links)
    → keys_of child parents links 0 ≡ word_of test 32
keys_word child parents links test same =
    words_equal 32 _ _ (keys_of_small child parents links 0 (omega arith)) (word_of_small test 32)
    (λ f h.
    keys_of_has child parents links 0 f h
    ∙ ap (λ (b : Bool). b || any (λ l. eqb l.key f && (eqb l.child child && has parents l.parent)) links) (has_empty f)
    ∙ sym (same f)
    ∙ sym (word_of_has test 32 f h))

-- E3, near: the keys gathered from the links of a place's node by what is seen are those that guard the place as one that an edge leaves
pub near_keys : (s : Place) → IdsSmall (take s.place s.node.places)
    → keys_of (at s).id (seen_at (take s.place s.node.places) s.occurrence) s.node.links 0 ≡ word_of (λ f. guarded_near f s) 32
near_keys s small = keys_word _ _ s.node.links (λ f. guarded_near f s) (λ f. near_seen f s small)

-- E3, far: those gathered by the marks are those that guard it as one that an edge enters
pub far_keys : (s : Place) (marks : ℕ) → Memᴰ s.occurrence s.node.places → Marked s.node marks
    → keys_of (at s).id marks s.node.links 0 ≡ word_of (λ f. guarded_far f s) 32
far_keys s marks m marked = keys_word _ _ s.node.links (λ f. guarded_far f s) (λ f. far_marked f s marks m marked)
