-- What is so of an accepted text: each of its lines, after the lines before it, passes the tests.
use Rattle.std.specs.Prelude.{◌≡◌, refl, Bool, true, false, ◌&&◌, ℕ, zero, suc, ◌^◌, ◌≤◌, ◌<◌, eqb, leb, ltb, length, get_or}
use Rattle.std.proofs.Common.{sym, ap, ◌∙◌, arith, leb-true, ltb-true}
use Rattle.std.proofs.lemmas.Bool.{false≢true, eqb-false}
use mathlib.Core.List.{List, [], ◌∷◌, ◌++◌, append_assoc, append-nil, tail, head_d, Memᴰ}
use Rattle.std.proofs.Math.Option.{Option, none, some}
use Rattle.std.proofs.Math.ListN.{get_or-append}
use Rattle.spec_base.specs.Basic.{keep, count, within}
use Rattle.law_base.specs.BoolLaws.{and_true, not_true}
use Rattle.law_base.specs.ListLaws.{keep_append, keep_member, count_keep, count_append, member_split}
use Rattle.spec_text.specs.declared.Line.{Line}
use Rattle.spec_text.specs.declared.LineKind.{LineKind}
use Rattle.spec_text.specs.declared.LineKind.TheVariants.{Rl, Fk, Pr, St, Lo, Br, El, En, Li}
use Rattle.spec_text.specs.declared.StatementKind.{StatementKind}
use Rattle.spec_text.specs.Text.{same, lines_in, names_line, forms_of, line_of, unused_line}
use Rattle.law_text.specs.TextLaws.{fits, all_fit, values_in, line_fits, line_fits_lem}
use Rattle.spec_text.specs.Reading.{sort, is_relation, is_statement, program, relation, relation_set, within_bounds, none_open, ordered}
use Rattle.spec_text.specs.Reading.{named, kind_sets, sets_allowed, sets_fit, link_fits, tests_of, first_failed, fault, Outcome, read_lines, other_byte}
use Rattle.spec_text.specs.Reading.{ends_line, read}
use Rattle.spec_text.specs.Reading.Outcome.{refused, accepted}

-- the line passes the five tests after the lines before it
pub record Passes (before : List Line) (l : Line) : Type 0 where
  pub bounds : within_bounds before l ≡ true
  pub order : ordered before l ≡ true
  pub names : named before l ≡ true
  pub sets : sets_fit before l ≡ true
  pub link : link_fits before l ≡ true

-- a list of tests of which none failed: the first passed, and none of the others failed
first_passed : (n : ℕ) (b : Bool) (ts : List (ℕ × Bool)) → first_failed ((n, b) ∷ ts) ≡ none → (b ≡ true) × (first_failed ts ≡ none)
unfolding first_failed
first_passed n true ts h = (refl, h)
first_passed n false ts h = absurd (let wrong : ◌≡◌ {A = ℕ} 0 1 = cc in omega arith)

-- a line without a fault passes the tests
pub fault_none : (before : List Line) (l : Line) → fault before l ≡ none → Passes before l
unfolding fault tests_of
fault_none before l h =
    let a = first_passed 9 (within_bounds before l) _ h in
    let b = first_passed 7 (ordered before l) _ a.1 in
    let c = first_passed 6 (named before l) _ b.1 in
    let d = first_passed 5 (sets_fit before l) _ c.1 in
    let e = first_passed 8 (link_fits before l) _ d.1 in
    record { bounds = a.0; order = b.0; names = c.0; sets = d.0; link = e.0 }

-- and a line that passes them has no fault
pub passes_faultless : (before : List Line) (l : Line) → Passes before l → fault before l ≡ none
unfolding fault tests_of first_failed
passes_faultless before l p = rw (p.bounds, p.order, p.names, p.sets, p.link)

-- a value line that gives this line
pub record FromBytes (l : Line) : Type 0 where
  pub bytes : List ℕ
  pub is_line : line_of bytes ≡ some l

-- lines after those before: each comes from bytes and has no fault after the lines before it
abbrev pub Taken : List Line → List Line → Type 0
Taken before [] = Unit {0}
Taken before (l ∷ lines) = FromBytes l × (fault before l ≡ none) × Taken (before ++ (l ∷ [])) lines

-- what is read after lines: more lines, each taken, and no block open at the end
pub record Read (before lines : List Line) : Type 0 where
  pub more : List Line
  pub joined : lines ≡ before ++ more
  pub taken : Taken before more
  pub closed : none_open lines ≡ true

-- no refusal is an acceptance
refused_accepted : {m n : ℕ} {lines : List Line} → refused m n ≡ accepted lines → ⊥
refused_accepted h = let wrong : ◌≡◌ {A = ℕ} 0 1 = cc in omega arith

-- an acceptance tells its lines
accepted_injective : {a b : List Line} → accepted a ≡ accepted b → a ≡ b
accepted_injective h = cc

-- at the end an acceptance has no block open and gives the lines
end_read : (before lines : List Line) (m n : ℕ) (b : Bool) → elim b [ true ↦ accepted before | false ↦ refused m n ] ≡ accepted lines
    → (b ≡ true) × (before ≡ lines)
end_read before lines m n true h = (refl, accepted_injective h)
end_read before lines m n false h = absurd (refused_accepted h)

-- at bytes an acceptance has a line without a fault and goes on
fault_read : (lines : List Line) (o : Option ℕ) (n : ℕ) (next : Outcome)
    → elim o [ some number ↦ refused number n | none ↦ next ] ≡ accepted lines
    → (o ≡ none) × (next ≡ accepted lines)
fault_read lines none n next h = (refl, h)
fault_read lines (some number) n next h = absurd (refused_accepted h)

line_read : (before lines : List Line) (o : Option Line) (k m n : ℕ) (next : Line → Outcome)
    → elim o [ none ↦ refused k m | some l ↦ elim (fault before l) [ some number ↦ refused number n | none ↦ next l ] ] ≡ accepted lines
    → (l : Line) × (o ≡ some l) × (fault before l ≡ none) × (next l ≡ accepted lines)
line_read before lines none k m n next h = absurd (refused_accepted h)
line_read before lines (some l) k m n next h = let f = fault_read lines (fault before l) n (next l) h in (l, refl, f.0, f.1)

-- what is read after lines, as far as it is accepted
pub read_lines_read : (before : List Line) (rest : List (List ℕ)) (lines : List Line) → read_lines before rest ≡ accepted lines
    → Read before lines
unfolding read_lines
read_lines_read before [] lines h =
    let t = end_read before lines _ _ (none_open before) h in
    record { more = []; joined = sym t.1 ∙ sym (append-nil before); taken = tt; closed = rw t.1 at t.0 }
read_lines_read before (bytes ∷ rest) lines h =
    let t = line_read before lines (line_of bytes) _ _ _ (λ l. read_lines (before ++ (l ∷ [])) rest) h in
    let r = read_lines_read (before ++ (t.0 ∷ [])) rest lines t.3 in
    record {
      more = t.0 ∷ r.more;
      joined = r.joined ∙ append_assoc before (t.0 ∷ []) r.more;
      taken = (record { bytes = bytes; is_line = t.1 }, t.2, r.taken);
      closed = r.closed;
    }

-- what is so of an accepted text
pub record Accepted (text : List ℕ) (lines : List Line) : Type 0 where
  pub size : length text ≤ 32768
  pub allowed : other_byte 1 text ≡ none
  pub ends : ends_line text ≡ true
  pub names : same (head_d (lines_in text) []) names_line ≡ true
  pub body : read_lines [] (tail (lines_in text)) ≡ accepted lines

-- an acceptance after a test: the test passed, and what is after it accepts
test_accepted : (b : Bool) (m n : ℕ) (o : Outcome) {lines : List Line}
    → elim b [ false ↦ refused m n | true ↦ o ] ≡ accepted lines
    → (b ≡ true) × (o ≡ accepted lines)
test_accepted true m n o h = (refl, h)
test_accepted false m n o h = absurd (refused_accepted h)

-- the same after a search that must find nothing
none_accepted : (a : Option ℕ) (o : Outcome) {lines : List Line}
    → elim a [ some line ↦ refused 2 line | none ↦ o ] ≡ accepted lines
    → (a ≡ none) × (o ≡ accepted lines)
none_accepted none o h = (refl, h)
none_accepted (some n) o h = absurd (refused_accepted h)

pub read_accepted : (text : List ℕ) (lines : List Line) → read text ≡ accepted lines → Accepted text lines
unfolding read
read_accepted text lines h =
    let a = test_accepted (leb (length text) 32768) _ _ _ h in
    let b = none_accepted (other_byte 1 text) _ a.1 in
    let c = test_accepted (ends_line text) _ _ _ b.1 in
    let d = test_accepted (same (head_d (lines_in text) []) names_line) _ _ _ c.1 in
    record { size = leb-true (length text) 32768 a.0; allowed = b.0; ends = c.0; names = d.0; body = d.1 }

-- the lines of an accepted text are taken, one after the other
pub read_taken : (text : List ℕ) (lines : List Line) → read text ≡ accepted lines → Taken [] lines
read_taken text lines h =
    let r = read_lines_read [] (tail (lines_in text)) lines (read_accepted text lines h).body in
    rw r.joined r.taken

-- in an accepted text no block is open at the end
pub read_closed : (text : List ℕ) (lines : List Line) → read text ≡ accepted lines → none_open lines ≡ true
read_closed text lines h = (read_lines_read [] (tail (lines_in text)) lines (read_accepted text lines h).body).closed

-- a line among those taken comes from bytes and has no fault after the lines before it
pub taken_split : (before front : List Line) (l : Line) (back : List Line) → Taken before (front ++ (l ∷ back))
    → FromBytes l × (fault (before ++ front) l ≡ none)
taken_split before [] l back t = (t.0, rw append-nil t.1)
taken_split before (x ∷ front) l back t =
    let r = taken_split (before ++ (x ∷ [])) front l back t.2 in
    (r.0, rw append_assoc at r.1)

-- each line of an accepted text has no fault after the lines before it
pub line_faultless : (text : List ℕ) {lines : List Line} → read text ≡ accepted lines
    → (before : List Line) (l : Line) (after : List Line) → lines ≡ before ++ (l ∷ after)
    → fault before l ≡ none
line_faultless text {lines} h before l after e = (taken_split [] before l after (rw e at (read_taken text lines h))).1

-- each line of an accepted text passes the tests after the lines before it
pub line_passes : (text : List ℕ) {lines : List Line} → read text ≡ accepted lines
    → (before : List Line) (l : Line) (after : List Line) → lines ≡ before ++ (l ∷ after)
    → Passes before l
line_passes text h before l after e = fault_none before l (line_faultless text h before l after e)

-- each line of an accepted text comes from bytes
pub line_bytes_lem : (text : List ℕ) {lines : List Line} → read text ≡ accepted lines → {l : Line} → Memᴰ l lines → FromBytes l
line_bytes_lem text {lines} h {l} m =
    let s = member_split m in
    (taken_split [] s.0 l s.1 (rw s.2 at (read_taken text lines h))).0

-- the values of each line of an accepted text fit the forms of its kind
pub line_forms : (text : List ℕ) {lines : List Line} → read text ≡ accepted lines → {l : Line} → Memᴰ l lines → line_fits l ≡ true
line_forms text h {l} m = let b = line_bytes_lem text h m in line_fits_lem b.bytes b.is_line

-- T4: the set of a relation's line that fits is one 64-bit word
relation_word : (l : Line) → l.kind ≡ Rl → line_fits l ≡ true → l.reads < 2 ^ 64
unfolding line_fits all_fit fits forms_of
relation_word l e h =
    let six : all_fit (forms_of Rl) (values_in l) ≡ true = rw e at h in
    let after_id = and_true (ltb l.id 256) _ six in
    let after_rel = and_true (eqb l.rel 0) _ after_id.1 in
    let after_to = and_true (eqb l.to 0) _ after_rel.1 in
    ltb-true l.reads (2 ^ 64) (and_true (ltb l.reads (2 ^ 64)) _ after_to.1).0

-- a line that counts as a relation is one
relation_kind : (l : Line) → is_relation l ≡ true → l.kind ≡ Rl
unfolding is_relation sort
relation_kind l = go l.kind refl
  where
    go : (k : LineKind) → l.kind ≡ k → eqb (sort k) 0 ≡ true → l.kind ≡ Rl
    go Rl e h = e
    go Fk e h = absurd (false≢true h)
    go Pr e h = absurd (false≢true h)
    go (St k) e h = absurd (false≢true h)
    go Lo e h = absurd (false≢true h)
    go Br e h = absurd (false≢true h)
    go El e h = absurd (false≢true h)
    go En e h = absurd (false≢true h)
    go Li e h = absurd (false≢true h)

-- what stands at a position is a member
get_d_member : {A : Type 0} (l : List A) (i : ℕ) (d : A) → i < length l → Memᴰ (get_or l i d) l
get_d_member [] i d h = absurd (omega arith)
get_d_member (x ∷ l) zero d h = Memᴰ.head refl
get_d_member (x ∷ l) (suc i) d h = Memᴰ.tail (get_d_member l i d (omega arith))

-- T7: a relation that is named is a line among these, and a relation
pub relation_member : (lines : List Line) (r : ℕ) → r < count is_relation lines
    → Memᴰ (relation lines r) lines × ((relation lines r).kind ≡ Rl)
unfolding relation
relation_member lines r h =
    let below : r < length (keep is_relation lines) = rw count_keep at h in
    let m = keep_member is_relation lines (get_d_member (keep is_relation lines) r unused_line below) in
    (m.0, relation_kind (relation lines r) m.1)

-- T7: lines after do not change what a number names
pub relation_before : (before after : List Line) (r : ℕ) → r < count is_relation before → relation (before ++ after) r ≡ relation before r
unfolding relation
relation_before before after r h =
    let below : r < length (keep is_relation before) = rw count_keep at h in
    rw keep_append (get_or-append (keep is_relation before) (keep is_relation after) unused_line r below)

-- what the tests say of a relation's line and of a statement's
rl_nonempty : (before : List Line) (l : Line) → l.kind ≡ Rl → sets_fit before l ≡ true → l.reads ≡ 0 → ⊥
unfolding sets_fit
rl_nonempty before l e h = eqb-false l.reads 0 (not_true (eqb l.reads 0) (rw (e, sets_fit) at h))

statement_names : (before : List Line) (l : Line) (k : StatementKind) → l.kind ≡ St k → named before l ≡ true
    → l.rel < count is_relation before
unfolding named
statement_names before l k e h =
    let own : eqb l.id (count is_statement (program before)) && ltb l.rel (count is_relation before) ≡ true = rw (e, named) at h in
    ltb-true l.rel (count is_relation before) (and_true (eqb l.id (count is_statement (program before))) _ own).1

statement_fits : (before : List Line) (l : Line) (k : StatementKind) → l.kind ≡ St k → sets_fit before l ≡ true
    → sets_allowed (relation_set before l.rel) k l ≡ true
unfolding sets_fit
statement_fits before l k e h = rw (e, sets_fit) at h

-- T9: the attributes of a relation of an accepted text are a set of one 64-bit word, and not empty
pub relation_set_lem : (text : List ℕ) {lines : List Line} → read text ≡ accepted lines → (r : ℕ) → r < count is_relation lines
    → (relation_set lines r ≡ 0 → ⊥) × (relation_set lines r < 2 ^ 64)
unfolding relation_set sets_fit forms_of
relation_set_lem text {lines} h r b =
    let m = relation_member lines r b in
    let s = member_split m.0 in (
      rl_nonempty s.0 (relation lines r) m.1 (line_passes text h s.0 (relation lines r) s.1 s.2).sets,
      relation_word (relation lines r) m.1 (line_forms text h m.0),
    )

-- T9: the sets of a statement over a relation with this set
pub record SetsLawful (whole : ℕ) (k : StatementKind) (l : Line) : Type 0 where
  pub nonempty : whole ≡ 0 → ⊥
  pub word : whole < 2 ^ 64
  pub reads_within : within l.reads whole ≡ true
  pub writes_within : within l.writes whole ≡ true
  pub tests_within : within l.tests whole ≡ true
  pub kind_sets_lem : kind_sets whole k l ≡ true

-- the four tests of T9 one by one
pub sets_lawful : {whole : ℕ} (k : StatementKind) (l : Line) → (whole ≡ 0 → ⊥) → whole < 2 ^ 64 → sets_allowed whole k l ≡ true
    → SetsLawful whole k l
sets_lawful {whole} k l filled word h =
    let a = and_true (within l.reads whole && within l.writes whole && within l.tests whole) _ h in
    let b = and_true (within l.reads whole && within l.writes whole) _ a.0 in
    let c = and_true (within l.reads whole) _ b.0 in
    record { nonempty = filled; word = word; reads_within = c.0; writes_within = c.1; tests_within = b.1; kind_sets_lem = a.1 }

-- T7: the relation that a statement of an accepted text names is there
pub statement_relation : (text : List ℕ) {lines : List Line} → read text ≡ accepted lines
    → {l : Line} → Memᴰ l lines → (k : StatementKind) → l.kind ≡ St k
    → l.rel < count is_relation lines
statement_relation text {lines} h {l} m k e =
    let s = member_split m in
    let below = statement_names s.0 l k e (line_passes text h s.0 l s.1 s.2).names in
    rw (s.2, count_append) (omega arith)

-- T9: the sets of a statement of an accepted text are allowed over its relation
pub statement_allowed : (text : List ℕ) {lines : List Line} → read text ≡ accepted lines
    → {l : Line} → Memᴰ l lines → (k : StatementKind) → l.kind ≡ St k
    → sets_allowed (relation_set lines l.rel) k l ≡ true
unfolding relation_set
statement_allowed text {lines} h {l} m k e =
    let s = member_split m in
    let passes = line_passes text h s.0 l s.1 s.2 in
    let same : relation_set lines l.rel ≡ relation_set s.0 l.rel =
    ap (λ x. relation_set x l.rel) s.2
    ∙ ap (λ x. x.reads) (relation_before s.0 (l ∷ s.1) l.rel (statement_names s.0 l k e passes.names)) in
    rw same (statement_fits s.0 l k e passes.sets)

pub statement_sets : (text : List ℕ) {lines : List Line} → read text ≡ accepted lines
    → {l : Line} → Memᴰ l lines → (k : StatementKind) → l.kind ≡ St k
    → SetsLawful (relation_set lines l.rel) k l
statement_sets text {lines} h {l} m k e =
    let there = relation_set_lem text h l.rel (statement_relation text h m k e) in
    sets_lawful k l there.0 there.1 (statement_allowed text h m k e)
