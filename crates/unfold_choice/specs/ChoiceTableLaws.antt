-- Words put one by one make the table of all of them, where they are at most 64.
use Rattle.std.specs.Prelude.{List, [], ◌∷◌, ◌++◌, ◌≡◌, refl, ℕ, ◌+◌, ◌<◌, ◌≤◌, length}
use Rattle.std.proofs.Common.{append_assoc, append-nil, sym, ap, ◌∙◌, arith, length-append, lt-ltb}
use Rattle.unfold.specs.PieceTableLaws.{cell_set}
use Rattle.unfold_choice.specs.declared.ChoiceTable.{ChoiceTable}
use Rattle.unfold_choice.specs.ChoiceTable.{put_word, put_all, table_of}

pub put_append : (t : ChoiceTable) (a b : List ℕ) → put_all t (a ++ b) ≡ put_all (put_all t a) b
unfolding put_all
put_append t [] b = refl
put_append t (word ∷ a) b = put_append (put_word t word) a b

put_one : (words : List ℕ) (word : ℕ) → length words < 64 → put_word (table_of words) word ≡ table_of (words ++ (word ∷ []))
unfolding put_word table_of
put_one words word h =
    rw (lt-ltb (length words) 64 h, cell_set words word (length words) refl h, ← length-append words (word ∷ [])) refl

put_more : (words more : List ℕ) → length words + length more ≤ 64 → put_all (table_of words) more ≡ table_of (words ++ more)
unfolding put_all
put_more words [] h = ap table_of (sym (append-nil words))
put_more words (word ∷ more) h =
    rw (put_one words word (omega arith))
    (put_more (words ++ (word ∷ [])) more (omega (arith, length-append words (word ∷ []))) ∙ ap table_of (append_assoc words (word ∷ []) more))

pub put_whole : (words : List ℕ) → length words ≤ 64 → put_all (table_of []) words ≡ table_of words
put_whole words h = put_more [] words (omega arith)
