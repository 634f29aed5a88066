-- Closed cases of the table's form. The whole table, with its entries: kind_laws/TableExamples.
use mathlib.Core.List.{[], ◌∷◌, ◌++◌, flat_map}
use Rattle.std.specs.Prelude.{◌≡◌, refl, ◌^◌}
use Rattle.std.proofs.Common.{arith}
use Rattle.spec_text.specs.declared.LineKind.TheVariants.{St}
use Rattle.spec_text.specs.declared.StatementKind.{StatementKind}
use Rattle.spec_text.specs.declared.StatementKind.TheVariants.{Is, Ku, Pd}
use Rattle.spec_text.specs.Text.{space, digit, word_of}
use Rattle.spec_text.specs.Quoted.{bytes, text}
use Rattle.spec_graph.specs.Edge.{Letter}
use Rattle.spec_graph.specs.Edge.Letter.{A, B, C, D, E}
use Rattle.spec_kinds.specs.declared.Chance.{Chance}
use Rattle.spec_kinds.specs.declared.Chance.TheVariants.{Impossible, Certain, Hanging}
use Rattle.spec_kinds.specs.Meaning.{Pair}
use Rattle.spec_kinds.specs.Table.{table_names, columns, table_line, pairs}

names_told : table_names ≡ text ("from to a b c d e" ∷ [])
unfolding table_names text bytes
names_told = refl

-- chances of the five letters, by which any two columns differ in one or the other line
some_chances : Letter → Chance
some_chances A = Impossible
some_chances B = Certain
some_chances C = Hanging
some_chances D = Impossible
some_chances E = Certain

other_chances : Letter → Chance
other_chances A = Hanging
other_chances B = Hanging
other_chances C = Hanging
other_chances D = Certain
other_chances E = Impossible

line_told : table_line Ku Pd some_chances ≡ text ("ku pd 0 1 2 0 1" ∷ [])
unfolding table_line columns flat_map word_of digit some_chances text bytes
line_told = refl

other_line_told : table_line Is Is other_chances ≡ text ("is is 2 2 2 1 0" ∷ [])
unfolding table_line columns flat_map word_of digit other_chances text bytes
other_line_told = refl

-- the kinds of the 64 lines, in their order
order_told : flat_map (λ p. word_of (St p.0) ++ word_of (St p.1) ++ (space ∷ [])) pairs
    ≡ flat_map bytes (
    "isis isks isps isku ispu iskd ispd iskl "
    ∷ "ksis ksks ksps ksku kspu kskd kspd kskl "
    ∷ "psis psks psps psku pspu pskd pspd pskl "
    ∷ "kuis kuks kups kuku kupu kukd kupd kukl "
    ∷ "puis puks pups puku pupu pukd pupd pukl "
    ∷ "kdis kdks kdps kdku kdpu kdkd kdpd kdkl "
    ∷ "pdis pdks pdps pdku pdpu pdkd pdpd pdkl "
    ∷ "klis klks klps klku klpu klkd klpd klkl "
    ∷ [])
unfolding flat_map word_of bytes
order_told = refl

-- a relation of no attribute, or of more than a word holds, is none
no_attributes : {k l : StatementKind} (x : Pair k l) → x.full ≡ 0 → ⊥
no_attributes x e = x.attributes e

too_wide : {k l : StatementKind} (x : Pair k l) → x.full ≡ 2 ^ 64 → ⊥
too_wide x e = omega (arith, x.word)
