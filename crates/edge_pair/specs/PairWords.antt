-- The words of a row as one that is left and as one that is entered, and the edges that they tell (E1, E2, Req 04). What is certain between two kinds
-- is told by their bits alone, so a set may be asked also where a letter is certain.
use Rattle.std.specs.Prelude.{Bool, cond, not, ℕ, eqb}
use Rattle.std.specs.Int.Bits.{bit_and, bit_or}
use Rattle.spec_base.specs.Basic.{meets}
use Rattle.spec_text.specs.declared.StatementKind.{StatementKind}
use Rattle.spec_text.specs.declared.StatementKind.TheVariants.{Is, Ks, Ps, Ku, Pu, Kd, Pd, Kl}
use Rattle.place_row.specs.declared.Row.{Row}
use Rattle.place_row.specs.KeyWord.{far_in}
use Rattle.edge_pair.specs.declared.Left.{Left}
use Rattle.edge_pair.specs.declared.Entered.{Entered}

-- the bit of a kind in a word of kinds
abbrev pub kind_bit : StatementKind → ℕ
kind_bit Is = 1
kind_bit Ks = 2
kind_bit Ps = 4
kind_bit Ku = 8
kind_bit Pu = 16
kind_bit Kd = 32
kind_bit Pd = 64
kind_bit Kl = 128

-- the kinds with which some letter is certain
abbrev pub sure_of : StatementKind → ℕ
sure_of Is = 254
sure_of Ks = 96
sure_of Ps = 97
sure_of Ku = 96
sure_of Pu = 97
sure_of Kd = 84
sure_of Pd = 117
sure_of Kl = 96

-- words of kinds: ku and pu; ks, ps, ku, pu and kl; ps, pu and pd; ku, pu, kd and pd; is, kd and pd; kd and pd; ks; ks and ps
abbrev pub updates : ℕ
updates = 24

abbrev pub readers : ℕ
readers = 158

abbrev pub testers : ℕ
testers = 84

abbrev pub writers : ℕ
writers = 120

abbrev pub existence : ℕ
existence = 97

abbrev pub deleters : ℕ
deleters = 96

abbrev pub key_select : ℕ
key_select = 2

abbrev pub selecters : ℕ
selecters = 6

-- a word, if the kind is among these
abbrev pub among : ℕ → StatementKind → ℕ → ℕ
among kinds k x = cond (meets kinds (kind_bit k)) x 0

-- the words of a row that is left: what makes an edge with the kind, with the writes, and with the reads or tests of a row that is entered (an insert
-- is certain of all that read); then the same of E, with kind and writes, and of D for a select
unfoldable pub left_of : Row → Left
left_of p = record {
  sure = sure_of p.kind;
  writes = bit_or (bit_or (among updates p.kind p.writes) (among readers p.kind p.reads)) (among testers p.kind p.tests);
  updates = among updates p.kind p.writes;
  phantom = among testers p.kind existence;
  phantoms = among testers p.kind p.tests;
  select = among key_select p.kind deleters;
  selected = among selecters p.kind p.reads;
  keys = p.keys;
}

-- the words of a row that is entered
unfoldable pub entered_of : Row → Entered
entered_of q = record {
  bit = kind_bit q.kind;
  writes = among writers q.kind q.writes;
  looks = bit_or (among readers q.kind q.reads) (among testers q.kind q.tests);
  far = far_in q.keys;
}

-- E1: a forward edge, by the words of two rows of one relation
unfoldable pub forward_words : Left → Entered → Bool
forward_words l q =
    not (eqb (bit_or (bit_or (bit_and l.sure q.bit) (bit_and l.writes q.writes)) (bit_and l.updates q.looks)) 0)

-- E2: a back edge
unfoldable pub back_words : Left → Entered → Bool
back_words l q =
    not (eqb (bit_or (bit_or (bit_and l.phantom q.bit) (bit_and l.phantoms q.writes))
    (cond (meets l.keys q.far) 0 (bit_or (bit_and l.select q.bit) (bit_and l.selected q.writes)))) 0)

-- no back edge leaves a row with these words
unfoldable pub never_back : Left → Bool
never_back l = eqb (bit_or (bit_or (bit_or l.phantom l.phantoms) l.select) l.selected) 0
