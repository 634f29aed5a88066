-- The whole table of kinds, line by line (Req 05): a change of the rules that changes an entry, or of the table's form, makes this false.
use mathlib.Core.List.{List, [], ◌∷◌, flat_map}
use Rattle.std.specs.Prelude.{refl}
use Prim.Native.String.{String}
use Rattle.spec_text.specs.Text.{digit, word_of}
use Rattle.spec_text.specs.Quoted.{bytes, text}
use Rattle.spec_kinds.specs.Table.{table_names, columns, table_line, table_text, KindTable}
use Rattle.law_kinds.specs.Chances.{chance_of}
use Rattle.law_kinds.proofs.TableLaws.{chances_table}

table : List String
table =
    "from to a b c d e"
    ∷ "is is 0 0 0 0 0"
    ∷ "is ks 0 1 0 0 0"
    ∷ "is ps 0 2 1 0 0"
    ∷ "is ku 1 2 0 0 0"
    ∷ "is pu 1 2 1 0 0"
    ∷ "is kd 1 0 0 0 0"
    ∷ "is pd 1 0 1 0 0"
    ∷ "is kl 0 1 0 0 0"
    ∷ "ks is 0 0 0 0 0"
    ∷ "ks ks 0 0 0 0 0"
    ∷ "ks ps 0 0 0 0 0"
    ∷ "ks ku 0 0 0 2 0"
    ∷ "ks pu 0 0 0 2 0"
    ∷ "ks kd 0 0 0 1 0"
    ∷ "ks pd 0 0 0 1 0"
    ∷ "ks kl 0 0 0 0 0"
    ∷ "ps is 0 0 0 0 1"
    ∷ "ps ks 0 0 0 0 0"
    ∷ "ps ps 0 0 0 0 0"
    ∷ "ps ku 0 0 0 2 2"
    ∷ "ps pu 0 0 0 2 2"
    ∷ "ps kd 0 0 0 2 1"
    ∷ "ps pd 0 0 0 2 1"
    ∷ "ps kl 0 0 0 0 0"
    ∷ "ku is 0 0 0 0 0"
    ∷ "ku ks 0 2 0 0 0"
    ∷ "ku ps 0 2 2 0 0"
    ∷ "ku ku 2 2 0 2 0"
    ∷ "ku pu 2 2 2 2 0"
    ∷ "ku kd 1 0 0 2 0"
    ∷ "ku pd 1 0 2 2 0"
    ∷ "ku kl 0 2 0 0 0"
    ∷ "pu is 0 0 0 0 1"
    ∷ "pu ks 0 2 0 0 0"
    ∷ "pu ps 0 2 2 0 0"
    ∷ "pu ku 2 2 0 2 2"
    ∷ "pu pu 2 2 2 2 2"
    ∷ "pu kd 1 0 0 2 1"
    ∷ "pu pd 1 0 2 2 1"
    ∷ "pu kl 0 2 0 0 0"
    ∷ "kd is 0 0 0 0 0"
    ∷ "kd ks 0 0 0 0 0"
    ∷ "kd ps 0 0 1 0 0"
    ∷ "kd ku 0 0 0 0 0"
    ∷ "kd pu 0 0 1 0 0"
    ∷ "kd kd 0 0 0 0 0"
    ∷ "kd pd 0 0 1 0 0"
    ∷ "kd kl 0 0 0 0 0"
    ∷ "pd is 0 0 0 0 1"
    ∷ "pd ks 0 0 0 0 0"
    ∷ "pd ps 0 0 1 0 0"
    ∷ "pd ku 0 0 0 0 2"
    ∷ "pd pu 0 0 1 0 2"
    ∷ "pd kd 0 0 0 0 1"
    ∷ "pd pd 0 0 1 0 1"
    ∷ "pd kl 0 0 0 0 0"
    ∷ "kl is 0 0 0 0 0"
    ∷ "kl ks 0 0 0 0 0"
    ∷ "kl ps 0 0 0 0 0"
    ∷ "kl ku 0 0 0 2 0"
    ∷ "kl pu 0 0 0 2 0"
    ∷ "kl kd 0 0 0 1 0"
    ∷ "kl pd 0 0 0 1 0"
    ∷ "kl kl 0 0 0 0 0"
    ∷ []

-- Req 05
table_told_lem : KindTable (text table)
unfolding table text bytes table_text table_line table_names columns flat_map word_of digit chance_of
table_told_lem = chances_table refl
