-- A node is an unfolding of the program whose unfoldings reach it: its number in the list of all is that of the unfoldings of the programs before
-- and its number among those of its program.
use mathlib.Core.List.{List, [], ◌∷◌, ◌++◌, map}
use Rattle.std.proofs.Math.Option.{some, none-ne-some}
use Rattle.std.specs.Prelude.{◌≡◌, refl, eqb, take}
use Rattle.std.proofs.Common.{sym, ap, ◌∙◌, eq-eqb, ne_eqb}
use Prim.Native.Nat.{ℕ, zero, suc, ◌+◌, ◌≤◌}
use Rattle.std.proofs.Math.Nat.{zero-add, add-zero}
use native.Mathlib.Omega.{arith}
use Rattle.std.proofs.Math.ListN.{length, get_elem?, length-append}
use Rattle.std.proofs.lemmas.List.{length-map, take-append-le}
use Rattle.std.proofs.Math.Seq.{take-append-add}
use Rattle.spec_base.specs.Basic.{count}
use Rattle.law_base.specs.ListLaws.{count_append, get_elem?_append_left, get_elem?_append_right, get_elem?_map_some, get_elem?_lt, some_injective}
use Rattle.spec_text.specs.declared.Line.{Line}
use Rattle.spec_graph.specs.Program.{Program, programs_of}
use Rattle.spec_graph.specs.Unfolding.{Execution, nodes_of, unfoldings}
use Rattle.spec_part.specs.Arm.{Unfolding, node_of, unfoldings_from}
use Rattle.law_part.specs.PartNodes.{unfoldings_nodes}
use Rattle.unfold_choice.specs.ChoicesSettled.{unfoldings_of}

-- the unfoldings of one program, which has this number
abbrev unfoldings_as : ℕ → Program → List Unfolding
unfoldings_as n p = map (λ e. record { number = n; program = p; execution = e }) (unfoldings p.body)

as_many : (n : ℕ) (p : Program) → length (unfoldings_as n p) ≡ length (unfoldings p.body)
as_many n p = length-map (unfoldings p.body) (λ e. record { number = n; program = p; execution = e })

-- the first k + 1 programs have as many unfoldings more as program k has
pub passed_more : (n : ℕ) (programs : List Program) (k : ℕ) {p : Program} → get_elem? programs k ≡ some p
    → length (unfoldings_from n (take (suc k) programs)) ≡ length (unfoldings_from n (take k programs)) + length (unfoldings p.body)
unfolding unfoldings_from
passed_more n [] k {p} h = absurd (none-ne-some p h)
passed_more n (q ∷ programs) zero {p} h = rw (some_injective h) (length-append (unfoldings_as n p) [] ∙ omega (arith, as_many n p))
passed_more n (q ∷ programs) (suc k) {p} h =
    omega (
      arith,
      length-append (unfoldings_as n q) (unfoldings_from (suc n) (take (suc k) programs)),
      length-append (unfoldings_as n q) (unfoldings_from (suc n) (take k programs)),
      passed_more (suc n) programs k h,
    )

-- and no more than all have
pub passed_few : (n : ℕ) (programs : List Program) (k : ℕ) → length (unfoldings_from n (take k programs)) ≤ length (unfoldings_from n programs)
unfolding unfoldings_from
passed_few n [] zero = omega arith
passed_few n [] (suc k) = omega arith
passed_few n (q ∷ programs) zero = omega arith
passed_few n (q ∷ programs) (suc k) =
    omega (
      arith,
      length-append (unfoldings_as n q) (unfoldings_from (suc n) (take k programs)),
      length-append (unfoldings_as n q) (unfoldings_from (suc n) programs),
      passed_few (suc n) programs k,
    )

-- unfolding j of program k
pub unfolding_there : (n : ℕ) (programs : List Program) (k j : ℕ) {p : Program} {u : Unfolding} → get_elem? programs k ≡ some p
    → get_elem? (unfoldings_as (n + k) p) j ≡ some u
    → get_elem? (unfoldings_from n programs) (length (unfoldings_from n (take k programs)) + j) ≡ some u
unfolding unfoldings_from
unfolding_there n [] k j {p} h m = absurd (none-ne-some p h)
unfolding_there n (q ∷ programs) zero j {p} {u} h m =
    let own : get_elem? (unfoldings_as n p) j ≡ some u = rw add-zero at m in
    rw (some_injective h, zero-add) (get_elem?_append_left (unfoldings_as n p) (unfoldings_from (suc n) programs) j
    (get_elem?_lt (unfoldings_as n p) j own) ∙ own)
unfolding_there n (q ∷ programs) (suc k) j {p} {u} h m =
    let before = unfoldings_from (suc n) (take k programs) in
    let index : length (unfoldings_as n q ++ before) + j ≡ length (unfoldings_as n q) + (length before + j) =
    omega (arith, length-append (unfoldings_as n q) before) in
    let same : n + suc k ≡ suc n + k = omega arith in
    rw index (get_elem?_append_right (unfoldings_as n q) (unfoldings_from (suc n) programs) (length before + j)
    ∙ unfolding_there (suc n) programs k j h (rw same at m))

-- ---- which unfolding of its program it is

-- of unfoldings that have one number, all count or none
count_own : (n : ℕ) (p : Program) (j : ℕ) (es : List (Execution p.body)) → j ≤ length es
    → count (λ (v : Unfolding). eqb v.number n) (take j (map (λ e. record { number = n; program = p; execution = e }) es)) ≡ j
count_own n p zero es h = refl
count_own n p (suc j) [] h = absurd (omega arith)
count_own n p (suc j) (e ∷ es) h = rw (eq-eqb n n refl) (omega (arith, count_own n p j es (omega arith)))

count_other : (n m : ℕ) (p : Program) (es : List (Execution p.body)) → (n ≡ m → ⊥)
    → count (λ (v : Unfolding). eqb v.number m) (map (λ e. record { number = n; program = p; execution = e }) es) ≡ 0
count_other n m p [] d = refl
count_other n m p (e ∷ es) d = rw (ne_eqb n m d) (omega (arith, count_other n m p es d))

pub number_there : (n : ℕ) (programs : List Program) (k j : ℕ) {p : Program} → get_elem? programs k ≡ some p → j ≤ length (unfoldings p.body)
    → count (λ v. eqb v.number (n + k)) (take (length (unfoldings_from n (take k programs)) + j) (unfoldings_from n programs)) ≡ j
unfolding unfoldings_from
number_there n [] k j {p} h m = absurd (none-ne-some p h)
number_there n (q ∷ programs) zero j {p} h m =
    rw (some_injective h, zero-add, add-zero)
    (ap (count (λ v. eqb v.number n)) (take-append-le j (unfoldings_as n p) (unfoldings_from (suc n) programs) (omega (arith, as_many n p)))
    ∙ count_own n p j (unfoldings p.body) m)
number_there n (q ∷ programs) (suc k) j {p} h m =
    let before = unfoldings_from (suc n) (take k programs) in
    let index : length (unfoldings_as n q ++ before) + j ≡ length (unfoldings_as n q) + (length before + j) =
    omega (arith, length-append (unfoldings_as n q) before) in
    let same : n + suc k ≡ suc n + k = omega arith in
    rw (index, same) (ap (count (λ v. eqb v.number (suc n + k)))
    (take-append-add (unfoldings_as n q) (unfoldings_from (suc n) programs) (length before + j))
    ∙ count_append (λ v. eqb v.number (suc n + k)) (unfoldings_as n q) (take (length before + j) (unfoldings_from (suc n) programs))
    ∙ omega (arith, count_other n (suc n + k) q (unfoldings q.body) (λ z. omega arith), number_there (suc n) programs k j h m))

-- ---- U4: as many as nodes, and in their order

pub unfoldings_many : (lines : List Line) → length (unfoldings_of lines) ≡ length (nodes_of lines)
unfolding unfoldings_of nodes_of
unfoldings_many lines =
    sym (length-map (unfoldings_from 0 (programs_of lines)) node_of) ∙ ap length (unfoldings_nodes 0 (programs_of lines))

-- ---- from the first program on

-- how many unfoldings the first k programs have
unfoldable pub passed_by : ℕ → List Line → ℕ
passed_by k lines = length (unfoldings_from 0 (take k (programs_of lines)))

pub node_there : (lines : List Line) (k j : ℕ) (p : Program) (e : Execution p.body) → get_elem? (programs_of lines) k ≡ some p
    → get_elem? (unfoldings p.body) j ≡ some e
    → get_elem? (unfoldings_of lines) (passed_by k lines + j) ≡ some (record { number = k; program = p; execution = e })
unfolding unfoldings_of passed_by
node_there lines k j p e h m =
    unfolding_there 0 (programs_of lines) k j h
    (rw zero-add (get_elem?_map_some (λ e. record { number = k; program = p; execution = e }) (unfoldings p.body) j m))

pub node_number : (lines : List Line) (k j : ℕ) {p : Program} → get_elem? (programs_of lines) k ≡ some p → j ≤ length (unfoldings p.body)
    → count (λ v. eqb v.number k) (take (passed_by k lines + j) (unfoldings_of lines)) ≡ j
unfolding unfoldings_of passed_by
node_number lines k j h m = rw zero-add at (number_there 0 (programs_of lines) k j h m)
