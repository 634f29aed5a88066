-- More small workloads that pin each rule of edges (E): those that no edit needs.
use Rattle.std.specs.Prelude.{Bool, true, false, not, ◌&&◌, List, [], ◌∷◌, map, ◌≡◌, refl, ℕ, replicate}
use Rattle.spec_base.specs.Basic.{keep}
use Rattle.spec_text.specs.declared.Line.{Line}
use Rattle.spec_text.specs.declared.LineKind.TheVariants.{St}
use Rattle.spec_text.specs.declared.StatementKind.{StatementKind}
use Rattle.spec_text.specs.declared.StatementKind.TheVariants.{Is, Ks, Ps, Ku, Pu, Kd, Pd, Kl}
use Rattle.spec_graph.specs.Graph.{Flow}
use Rattle.spec_graph.specs.Program.{Link, statement_of}
use Rattle.spec_graph.specs.Unfolding.{Occurrence, nodes_of}
use Rattle.spec_graph.specs.Edge.{Letter, Place, R, W, T, holds, same_relation, forward, back, at, stands, places_of, place_at, both_pass}
use Rattle.spec_graph.specs.Edge.{shared, binds, guarded_near, guarded_far}
use Rattle.spec_graph.specs.Edge.{shields}
use Rattle.spec_graph.specs.Edge.Letter.{A, B, C, D, E}
use Rattle.spec_graph.specs.ExampleText.{line, rl, fk, pr, is, ks, ps, ku, pu, kd, pd, kl, lo, br, el, en, li, edge}
use Rattle.spec_graph.specs.ExampleText.{edges, backs, graph, is_back_edge}
use Rattle.spec_graph.specs.EdgeExamples.{kinds, letters, between, family, reader, writer, late_writer, parents}

-- E0: R, W and T of a statement of each kind, with something in every field
E0_sets : map {B = ℕ × ℕ × ℕ} (λ k. let s = statement_of k (line (St k) 0 0 0 1 2 4) in (R s, W s, T s)) kinds
    ≡ (0, 2, 0) ∷ (1, 0, 0) ∷ (1, 0, 4) ∷ (1, 2, 0) ∷ (1, 2, 4) ∷ (0, 2, 0) ∷ (0, 2, 4) ∷ (1, 0, 0) ∷ []
unfolding kinds edges
E0_sets = refl

-- ---- E0 to E2, E5, E6: letters, edges and their records

-- EA alone: both write what meets; into a delete too
EA_alone : (letters (ku 0 0 0 2) (ku 0 0 0 6) ≡ A ∷ []) × (letters (is 0 0 15) (kd 0 0 15) ≡ A ∷ [])
unfolding letters
EA_alone = (refl, refl)

-- EA: not into an insert
EA_into_insert : (letters (ku 0 0 0 2) (is 0 0 15) ≡ []) × (letters (is 0 0 15) (is 0 0 15) ≡ [])
unfolding letters
EA_into_insert = (refl, refl)

-- EB alone: the first writes what the second reads; not from a delete
EB_alone : (letters (ku 0 0 0 2) (ks 0 0 3) ≡ B ∷ []) × (letters (is 0 0 15) (ks 0 0 1) ≡ B ∷ [])
unfolding letters
EB_alone = (refl, refl)

-- EC alone: the first writes what the second tests
EC_alone : letters (ku 0 0 0 2) (ps 0 0 0 3) ≡ C ∷ []
unfolding letters
EC_alone = refl

-- EC: inserts and deletes, whatever is tested
EC_delete : (letters (kd 0 0 15) (ps 0 0 0 0) ≡ C ∷ []) × (letters (pd 0 0 15 0) (ps 0 0 0 0) ≡ C ∷ [])
unfolding letters
EC_delete = (refl, refl)

-- ED alone: the first reads what the second writes or deletes, but not what it inserts
ED_alone : (letters (ks 0 0 2) (ku 0 0 0 3) ≡ D ∷ []) × (letters (ks 0 0 2) (kd 0 0 15) ≡ D ∷ [])
unfolding letters
ED_alone = (refl, refl)

-- EE alone: the first tests what the second writes
EE_alone : letters (ps 0 0 0 2) (ku 0 0 0 3) ≡ E ∷ []
unfolding letters
EE_alone = refl

-- EE: inserts and deletes, whatever is tested
EE_delete : (letters (ps 0 0 0 0) (kd 0 0 15) ≡ E ∷ []) × (letters (ps 0 0 0 0) (pd 0 0 15 0) ≡ E ∷ [])
unfolding letters
EE_delete = (refl, refl)

-- sets that do not meet give no letter
EA_apart : letters (ku 0 0 0 2) (ku 0 0 0 5) ≡ []
unfolding letters
EA_apart = refl

EB_apart : letters (ku 0 0 0 2) (ks 0 0 5) ≡ []
unfolding letters
EB_apart = refl

EC_apart : letters (ku 0 0 0 2) (ps 0 0 0 5) ≡ []
unfolding letters
EC_apart = refl

ED_apart : letters (ks 0 0 2) (ku 0 0 0 5) ≡ []
unfolding letters
ED_apart = refl

EE_apart : letters (ps 0 0 0 2) (ku 0 0 0 5) ≡ []
unfolding letters
EE_apart = refl

-- a program of one statement for each kind, all over one relation
abbrev programs : Line → Line → Line → Line → Line → Line → Line → Line → List Line
programs a b c d e f g h =
    rl 0 7 ∷ pr 0 ∷ a ∷ pr 1 ∷ b ∷ pr 2 ∷ c ∷ pr 3 ∷ d ∷ pr 4 ∷ e ∷ pr 5 ∷ f ∷ pr 6 ∷ g ∷ pr 7 ∷ h ∷ []

-- every set meets every set
abbrev meeting : List Line
meeting = programs (is 0 0 7) (ks 0 0 7) (ps 0 0 7 7) (ku 0 0 7 7) (pu 0 0 7 7 7) (kd 0 0 7) (pd 0 0 7 7) (kl 0 0 7)

-- the same statements with something in the fields that the kinds lack (no text gives such lines)
abbrev filled : List Line
filled =
    let all : StatementKind → Line = λ k. line (St k) 0 0 0 7 7 7 in
    programs (all Is) (all Ks) (all Ps) (all Ku) (all Pu) (all Kd) (all Pd) (all Kl)

-- the kinds that each statement reaches in this way, for the kinds is ks ps ku pu kd pd kl in turn
reach : (Place → Place → Bool) → List Line → List (List StatementKind)
unfolding edges
reach test lines =
    let places = places_of 0 (nodes_of lines) in
    map (λ s. map (λ t. (at t).kind) (keep (test s) places)) places

abbrev letter : Letter → Place → Place → Bool
letter x s t = holds x (at s) (at t)

-- EA to EE, Req 03: over all pairs of kinds, where the sets meet
EA_kinds : reach (letter A) meeting
    ≡ (Ku ∷ Pu ∷ Kd ∷ Pd ∷ [])
    ∷ []
    ∷ []
    ∷ (Ku ∷ Pu ∷ Kd ∷ Pd ∷ [])
    ∷ (Ku ∷ Pu ∷ Kd ∷ Pd ∷ [])
    ∷ []
    ∷ []
    ∷ []
    ∷ []
unfolding reach
EA_kinds = refl

EB_kinds : reach (letter B) meeting
    ≡ (Ks ∷ Ps ∷ Ku ∷ Pu ∷ Kl ∷ [])
    ∷ []
    ∷ []
    ∷ (Ks ∷ Ps ∷ Ku ∷ Pu ∷ Kl ∷ [])
    ∷ (Ks ∷ Ps ∷ Ku ∷ Pu ∷ Kl ∷ [])
    ∷ []
    ∷ []
    ∷ []
    ∷ []
unfolding reach
EB_kinds = refl

EC_kinds : reach (letter C) meeting
    ≡ (Ps ∷ Pu ∷ Pd ∷ [])
    ∷ []
    ∷ []
    ∷ (Ps ∷ Pu ∷ Pd ∷ [])
    ∷ (Ps ∷ Pu ∷ Pd ∷ [])
    ∷ (Ps ∷ Pu ∷ Pd ∷ [])
    ∷ (Ps ∷ Pu ∷ Pd ∷ [])
    ∷ []
    ∷ []
unfolding reach
EC_kinds = refl

ED_kinds : reach (letter D) meeting
    ≡ []
    ∷ (Ku ∷ Pu ∷ Kd ∷ Pd ∷ [])
    ∷ (Ku ∷ Pu ∷ Kd ∷ Pd ∷ [])
    ∷ (Ku ∷ Pu ∷ Kd ∷ Pd ∷ [])
    ∷ (Ku ∷ Pu ∷ Kd ∷ Pd ∷ [])
    ∷ []
    ∷ []
    ∷ (Ku ∷ Pu ∷ Kd ∷ Pd ∷ [])
    ∷ []
unfolding reach
ED_kinds = refl

EE_kinds : reach (letter E) meeting
    ≡ []
    ∷ []
    ∷ (Is ∷ Ku ∷ Pu ∷ Kd ∷ Pd ∷ [])
    ∷ []
    ∷ (Is ∷ Ku ∷ Pu ∷ Kd ∷ Pd ∷ [])
    ∷ []
    ∷ (Is ∷ Ku ∷ Pu ∷ Kd ∷ Pd ∷ [])
    ∷ []
    ∷ []
unfolding reach
EE_kinds = refl

-- E0: a set that the kind lacks meets nothing
E0_lacking : (x : Letter) → reach (letter x) filled ≡ reach (letter x) meeting
unfolding reach
E0_lacking A = refl
E0_lacking B = refl
E0_lacking C = refl
E0_lacking D = refl
E0_lacking E = refl

-- E1: a forward edge stands if any letter holds
E1_kinds : reach (stands Flow.forward) meeting
    ≡ (Ks ∷ Ps ∷ Ku ∷ Pu ∷ Kd ∷ Pd ∷ Kl ∷ [])
    ∷ (Ku ∷ Pu ∷ Kd ∷ Pd ∷ [])
    ∷ (Is ∷ Ku ∷ Pu ∷ Kd ∷ Pd ∷ [])
    ∷ (Ks ∷ Ps ∷ Ku ∷ Pu ∷ Kd ∷ Pd ∷ Kl ∷ [])
    ∷ (Is ∷ Ks ∷ Ps ∷ Ku ∷ Pu ∷ Kd ∷ Pd ∷ Kl ∷ [])
    ∷ (Ps ∷ Pu ∷ Pd ∷ [])
    ∷ (Is ∷ Ps ∷ Ku ∷ Pu ∷ Kd ∷ Pd ∷ [])
    ∷ (Ku ∷ Pu ∷ Kd ∷ Pd ∷ [])
    ∷ []
unfolding reach
E1_kinds = refl

-- E2: a back edge stands if E holds, or D where the first is ks or ps (Req 03: not kl)
E2_kinds : reach (stands Flow.back) meeting
    ≡ []
    ∷ (Ku ∷ Pu ∷ Kd ∷ Pd ∷ [])
    ∷ (Is ∷ Ku ∷ Pu ∷ Kd ∷ Pd ∷ [])
    ∷ []
    ∷ (Is ∷ Ku ∷ Pu ∷ Kd ∷ Pd ∷ [])
    ∷ []
    ∷ (Is ∷ Ku ∷ Pu ∷ Kd ∷ Pd ∷ [])
    ∷ []
    ∷ []
unfolding reach
E2_kinds = refl

-- E2, Req 03: D alone gives a back edge from ks and ps, and none from ku, pu and kl
E2_select : (between (ks 0 0 2) (ku 0 0 0 2) ≡ edge 0 0 1 0 Flow.forward D 1 1 ∷ edge 0 0 1 0 Flow.back D 1 1 ∷ [])
    × (between (ps 0 0 2 0) (ku 0 0 0 2) ≡ edge 0 0 1 0 Flow.forward D 1 1 ∷ edge 0 0 1 0 Flow.back D 1 1 ∷ [])
unfolding between
E2_select = (refl, refl)

E2_update : (between (ku 0 0 2 4) (ku 0 0 0 2) ≡ edge 0 0 1 0 Flow.forward D 1 1 ∷ [])
    × (between (pu 0 0 2 4 0) (ku 0 0 0 2) ≡ edge 0 0 1 0 Flow.forward D 1 1 ∷ [])
    × (between (kl 0 0 2) (ku 0 0 0 2) ≡ edge 0 0 1 0 Flow.forward D 1 1 ∷ [])
unfolding between
E2_update = (refl, refl, refl)

-- this occurrence, and this place, with a statement of this kind and the same values
abbrev kind_of : StatementKind → Occurrence → Occurrence
kind_of k o =
    let p = o.statement in
    record {
      statement = record { kind = k; id = p.id; relation = p.relation; reads = p.reads; writes = p.writes; tests = p.tests };
      path = o.path;
    }

abbrev of_kind : StatementKind → Place → Place
of_kind k s = record { number = s.number; node = s.node; place = s.place; occurrence = kind_of k s.occurrence }

-- E1, Req 03: whatever stands at the other place, a kl has the forward edges of a ks
E1_lock : (s t : Place) → (forward (of_kind Kl s) t ≡ forward (of_kind Ks s) t) × (forward t (of_kind Kl s) ≡ forward t (of_kind Ks s))
unfolding edges
E1_lock s t = (refl, refl)

-- E6, Req 03: by the same letters, with the same attributes shared
abbrev AsOfSelect : Letter → Place → Place → Type 0
AsOfSelect x s t =
    let lock = at (of_kind Kl s) in
    let select = at (of_kind Ks s) in
    (holds x lock (at t) ≡ holds x select (at t)) × (shared x lock (at t) ≡ shared x select (at t))
    × (holds x (at t) lock ≡ holds x (at t) select) × (shared x (at t) lock ≡ shared x (at t) select)

E6_lock : (x : Letter) (s t : Place) → AsOfSelect x s t
unfolding W R T holds shared
E6_lock A s t = (refl, refl, refl, refl)
E6_lock B s t = (refl, refl, refl, refl)
E6_lock C s t = (refl, refl, refl, refl)
E6_lock D s t = (refl, refl, refl, refl)
E6_lock E s t = (refl, refl, refl, refl)

-- E2, Req 03: and no back edge leaves it
E2_lock : (s t : Place) → back (of_kind Kl s) t ≡ false
unfolding edges
E2_lock s t = go (same_relation (at s) (at t))
  where
    go : (b : Bool) → (b && false) ≡ false
    go true = refl
    go false = refl

-- E2, Req 03: those that enter it are those of a ks
E2_into_lock : (s t : Place) → back t (of_kind Kl s) ≡ back t (of_kind Ks s)
unfolding edges
E2_into_lock s t = refl

-- E0: no edge between statements over two relations
E0_two_relations : map {B = ℕ × ℕ} (λ e. (e.leaves, e.enters)) (edges (rl 0 3 ∷ rl 1 3 ∷ pr 0 ∷ pu 0 0 3 3 3 ∷ pu 1 1 3 3 3 ∷ []))
    ≡ (0, 0) ∷ (0, 0) ∷ (1, 1) ∷ (1, 1) ∷ []
unfolding edges
E0_two_relations = refl

-- E6: the letter, how many attributes its two sets share, and the lowest of them
E6_A : between (ku 0 0 0 14) (ku 0 0 0 7) ≡ edge 0 0 1 0 Flow.forward A 2 1 ∷ []
unfolding between
E6_A = refl

E6_B : between (ku 0 0 0 14) (ks 0 0 13) ≡ edge 0 0 1 0 Flow.forward B 2 2 ∷ []
unfolding between
E6_B = refl

E6_C : between (ku 0 0 0 7) (ps 0 0 0 11) ≡ edge 0 0 1 0 Flow.forward C 2 0 ∷ []
unfolding between
E6_C = refl

E6_D : between (ks 0 0 6) (ku 0 0 0 12) ≡ edge 0 0 1 0 Flow.forward D 1 2 ∷ edge 0 0 1 0 Flow.back D 1 2 ∷ []
unfolding between
E6_D = refl

-- E6: 64 if no attribute is shared
E6_none : (between (is 0 0 15) (ps 0 0 0 0) ≡ edge 0 0 1 0 Flow.forward C 0 64 ∷ [])
    × (between (ps 0 0 0 0) (is 0 0 15) ≡ edge 0 0 1 0 Flow.forward E 0 64 ∷ edge 0 0 1 0 Flow.back E 0 64 ∷ [])
unfolding between
E6_none = (refl, refl)

-- E6: the first letter that holds; for a back edge E, else D
E6_first : (between (pu 0 0 1 2 4) (pu 0 0 2 7 2) ≡ edge 0 0 1 0 Flow.forward A 1 1 ∷ edge 0 0 1 0 Flow.back E 1 2 ∷ [])
    × (between (pu 0 0 1 2 4) (pu 0 0 2 5 2) ≡ edge 0 0 1 0 Flow.forward B 1 1 ∷ edge 0 0 1 0 Flow.back E 1 2 ∷ [])
    × (between (pu 0 0 1 2 4) (pu 0 0 0 5 2) ≡ edge 0 0 1 0 Flow.forward C 1 1 ∷ edge 0 0 1 0 Flow.back E 1 2 ∷ [])
    × (between (pu 0 0 1 2 4) (pu 0 0 0 5 0) ≡ edge 0 0 1 0 Flow.forward D 1 0 ∷ edge 0 0 1 0 Flow.back E 1 2 ∷ [])
    × (between (ps 0 0 1 0) (kd 0 0 15) ≡ edge 0 0 1 0 Flow.forward D 1 0 ∷ edge 0 0 1 0 Flow.back E 0 64 ∷ [])
unfolding between
E6_first = (refl, refl, refl, refl, refl)

-- E6: all of the 64 attributes count
E6_all : edges (rl 0 0xffffffffffffffff ∷ pr 0 ∷ ku 0 0 0 0xffffffffffffffff ∷ []) ≡ edge 0 0 0 0 Flow.forward A 64 0 ∷ []
unfolding edges
E6_all = refl

E6_last : edges (rl 0 0xffffffffffffffff ∷ pr 0 ∷ ku 0 0 0 0x8000000000000000 ∷ []) ≡ edge 0 0 0 0 Flow.forward A 1 63 ∷ []
unfolding edges
E6_last = refl

-- ---- E3: the shield

-- E3: linked on both sides, the pair is shielded
E3_shielded : backs (family reader writer) ≡ []
unfolding backs
E3_shielded = refl

-- E3: not where one side has no link
E3_near_unlinked : backs (family (ku 0 0 0 1 ∷ ks 1 1 2 ∷ []) writer) ≡ (0, 1, 1, 1) ∷ []
unfolding backs
E3_near_unlinked = refl

-- Req 02: where both come late, the near one is too late
E3_both_late : backs (family (ks 0 1 2 ∷ ku 1 0 0 1 ∷ li 0 0 1 ∷ []) late_writer) ≡ (0, 0, 1, 0) ∷ []
unfolding backs
E3_both_late = refl

-- E3: the parent is the link's, and another statement before the child is not
E3_near_other_parent : backs (family (ku 0 0 0 1 ∷ ks 1 1 2 ∷ ku 2 0 0 1 ∷ li 0 1 2 ∷ []) writer) ≡ (0, 1, 1, 1) ∷ []
unfolding backs
E3_near_other_parent = refl

-- E3: the child is the link's, and another read of the same relation is not
E3_near_other_child : backs (family (ku 0 0 0 1 ∷ ks 1 1 2 ∷ ks 2 1 2 ∷ li 0 1 0 ∷ []) writer) ≡ (0, 2, 1, 1) ∷ []
unfolding backs
E3_near_other_child = refl

-- Req 02: a statement linked to itself is its own far parent
E3_own_far_parent : backs (rl 0 3 ∷ fk 0 0 0 ∷ pr 0 ∷ ku 0 0 0 1 ∷ ks 1 0 2 ∷ li 0 1 0 ∷ pr 1 ∷ ku 0 0 0 2 ∷ li 0 0 0 ∷ []) ≡ []
unfolding backs
E3_own_far_parent = refl

-- E3: and not its own near parent; a near child of D is a ks or ps, which would shield nowhere, so what is asked of an update's sides says it
E3_own_near_parent : backs (rl 0 3 ∷ fk 0 0 0 ∷ pr 0 ∷ ks 0 0 2 ∷ li 0 0 0 ∷ pr 1 ∷ ku 0 0 0 2 ∷ li 0 0 0 ∷ []) ≡ (0, 0, 1, 0) ∷ []
unfolding backs
E3_own_near_parent = refl

E3_own_sides : let nodes = nodes_of (rl 0 3 ∷ fk 0 0 0 ∷ pr 0 ∷ ku 0 0 0 1 ∷ li 0 0 0 ∷ []) in
    let own = place_at nodes 0 0 in
    (both_pass (λ s t. guarded_near 0 s) own own ≡ false) × (both_pass (λ s t. guarded_far 0 t) own own ≡ true)
unfolding graph
E3_own_sides = (refl, refl)

-- E3: one key for both sides
E3_two_keys_late : backs (family reader (ku 0 1 0 2 ∷ ku 1 0 0 1 ∷ li 1 0 1 ∷ [])) ≡ (0, 1, 1, 0) ∷ []
unfolding backs
E3_two_keys_late = refl

-- E3: likewise where key 0's near parent writes, but late
E3_near_two_keys_late : backs (family (ku 0 0 0 1 ∷ ks 1 1 2 ∷ ku 2 0 0 1 ∷ li 1 1 0 ∷ li 0 1 2 ∷ []) writer) ≡ (0, 1, 1, 1) ∷ []
unfolding backs
E3_near_two_keys_late = refl

-- E3: any key will do
E3_second_key : backs (family (ks 0 0 2 ∷ ku 1 0 0 1 ∷ ks 2 1 2 ∷ li 0 2 0 ∷ li 1 2 1 ∷ []) (ku 0 0 0 1 ∷ ku 1 1 0 2 ∷ li 1 1 0 ∷ [])) ≡ []
unfolding backs
E3_second_key = refl

-- E3, Req 03: a parent of kind is, ku, kd or kl shields, on either side; for the kinds is ks ps ku pu kd pd kl in turn
-- (a text links no parent of kind ps, pu or pd)
E3_near_kinds : map (λ parent. is_back_edge (family (parent ∷ ks 1 1 2 ∷ li 0 1 0 ∷ []) writer) 0 1 1 1) parents
    ≡ false ∷ true ∷ true ∷ false ∷ true ∷ false ∷ true ∷ false ∷ []
unfolding is_back_edge
E3_near_kinds = refl

-- E3, E4, Req 03: a kl is a parent that shields wherever a ku is one: by the same links, for the same children
E3_lock_as_update : (l : Link) (child parent : Occurrence)
    → (let o = kind_of Kl parent in binds l child o && shields o.statement.kind)
    ≡ (let o = kind_of Ku parent in binds l child o && shields o.statement.kind)
unfolding edges
E3_lock_as_update l child parent = refl

-- E3: the shield does not ask of what kind the child is, on either side
E3_any_child : (k : StatementKind) (key : ℕ) (s : Place)
    → (guarded_near key (of_kind k s) ≡ guarded_near key s) × (guarded_far key (of_kind k s) ≡ guarded_far key s)
unfolding edges
E3_any_child k key s = (refl, refl)

-- E3, Req 03: the near parent and the far one need not be of one kind, but each of a kind that shields; of the near kinds in turn, the far ones
-- that shield with it
E3_kinds_of_both :
    map
    (λ near. map
    (λ l. l.kind)
    (keep
    (λ far. not (is_back_edge (family (near ∷ ks 1 1 2 ∷ li 0 1 0 ∷ []) (far ∷ ku 1 1 0 2 ∷ li 0 1 0 ∷ [])) 0 1 1 1))
    parents))
    parents
    ≡ let those = St Is ∷ St Ku ∷ St Kd ∷ St Kl ∷ [] in
    those ∷ [] ∷ [] ∷ those ∷ [] ∷ those ∷ [] ∷ those ∷ []
unfolding is_back_edge
E3_kinds_of_both = refl

-- E3, Req 03: near, after the child, none of them shields (the parents of this list have id 0 and the child 1, so no text has these lines)
E3_near_late_kinds : map (λ parent. is_back_edge (family (ks 1 1 2 ∷ parent ∷ li 0 1 0 ∷ []) writer) 0 0 1 1) parents ≡ replicate 8 true
unfolding is_back_edge
E3_near_late_kinds = refl

-- Req 02: and after the child: a ks shields nowhere (the parents of this list have id 0 and the child 1, so no text has these lines)
E3_far_late_kinds : map (λ parent. is_back_edge (family reader (ku 1 1 0 2 ∷ parent ∷ li 0 1 0 ∷ [])) 0 1 1 0) parents
    ≡ false ∷ true ∷ true ∷ false ∷ true ∷ false ∷ true ∷ false ∷ []
unfolding is_back_edge
E3_far_late_kinds = refl

-- E3: in the far program, too, parent and child are the link's, and others of their relations are not
E3_far_other_parent : backs (family reader (ku 0 1 0 2 ∷ ku 1 0 0 1 ∷ ks 2 0 2 ∷ li 0 0 2 ∷ [])) ≡ (0, 1, 1, 0) ∷ []
unfolding backs
E3_far_other_parent = refl

E3_far_other_child : backs (family reader (ku 0 1 0 2 ∷ ku 1 1 0 2 ∷ ku 2 0 0 1 ∷ li 0 1 2 ∷ [])) ≡ (0, 1, 1, 0) ∷ []
unfolding backs
E3_far_other_child = refl

-- E3: of two parents by one key any that writes will do, whichever link comes first, near and far
E3_near_two_parents : map (λ links. backs (family (ku 0 0 0 1 ∷ ks 1 0 2 ∷ ks 2 1 2 ∷ links) writer))
    ((li 0 2 0 ∷ li 0 2 1 ∷ []) ∷ (li 0 2 1 ∷ li 0 2 0 ∷ []) ∷ [])
    ≡ [] ∷ [] ∷ []
unfolding backs
E3_near_two_parents = refl

E3_far_two_parents : map (λ links. backs (family reader (ku 0 1 0 2 ∷ ks 1 0 2 ∷ ku 2 0 0 1 ∷ links)))
    ((li 0 0 1 ∷ li 0 0 2 ∷ []) ∷ (li 0 0 2 ∷ li 0 0 1 ∷ []) ∷ [])
    ≡ [] ∷ [] ∷ []
unfolding backs
E3_far_two_parents = refl

-- E3: each kind of far child that D names, ku, pu, kd and pd, is shielded by a parent before it and, by Req 02, after it
E3_far_children : map (λ child. is_back_edge (family reader (ku 0 0 0 1 ∷ child ∷ li 0 1 0 ∷ [])) 0 1 1 1)
    (ku 1 1 0 2 ∷ pu 1 1 0 2 0 ∷ kd 1 1 3 ∷ pd 1 1 3 0 ∷ [])
    ≡ false ∷ false ∷ false ∷ false ∷ []
unfolding is_back_edge
E3_far_children = refl

E3_far_late_children : map (λ child. is_back_edge (family reader (child ∷ ku 1 0 0 1 ∷ li 0 0 1 ∷ [])) 0 1 1 0)
    (ku 0 1 0 2 ∷ pu 0 1 0 2 0 ∷ kd 0 1 3 ∷ pd 0 1 3 0 ∷ [])
    ≡ false ∷ false ∷ false ∷ false ∷ []
unfolding is_back_edge
E3_far_late_children = refl

-- E3: and unlinked it is not
E3_far_children_unlinked : map (λ child. is_back_edge (family reader (child ∷ ku 1 0 0 1 ∷ [])) 0 1 1 0)
    (ku 0 1 0 2 ∷ pu 0 1 0 2 0 ∷ kd 0 1 3 ∷ pd 0 1 3 0 ∷ [])
    ≡ true ∷ true ∷ true ∷ true ∷ []
unfolding is_back_edge
E3_far_children_unlinked = refl

-- E3: a node shields against itself, too: two runs of one program
E3_itself : backs (rl 0 3 ∷ rl 1 3 ∷ fk 0 1 0 ∷ pr 0 ∷ ku 0 0 0 1 ∷ ks 1 1 2 ∷ ku 2 1 0 2 ∷ li 0 1 0 ∷ li 0 2 0 ∷ []) ≡ []
unfolding backs
E3_itself = refl

E3_itself_unlinked : backs (rl 0 3 ∷ rl 1 3 ∷ fk 0 1 0 ∷ pr 0 ∷ ku 0 0 0 1 ∷ ks 1 1 2 ∷ ku 2 1 0 2 ∷ li 0 1 0 ∷ []) ≡ (0, 1, 0, 2) ∷ []
unfolding backs
E3_itself_unlinked = refl

-- E2: a link removes the back edge that D alone gives a ps
E2_link_removes_D : backs (family (ku 0 0 0 1 ∷ ps 1 1 2 1 ∷ li 0 1 0 ∷ []) writer) ≡ []
unfolding backs
E2_link_removes_D = refl

-- ---- E4: links bind within the turn

-- Req 02: in the far program each turn has its own parent, late as it may be
E4_far_turn_before : backs (family reader (lo ∷ ku 0 1 0 2 ∷ ku 1 0 0 1 ∷ en ∷ li 0 0 1 ∷ [])) ≡ []
unfolding backs
E4_far_turn_before = refl

-- E4: a parent before the child in the same turn shields in each turn
E4_same_turn : backs (family (lo ∷ ku 0 0 0 1 ∷ ks 1 1 2 ∷ en ∷ li 0 1 0 ∷ []) writer) ≡ []
unfolding backs
E4_same_turn = refl

-- E4: a parent before the loop shields in each turn
E4_before_loop : backs (family (ku 0 0 0 1 ∷ lo ∷ ks 1 1 2 ∷ en ∷ li 0 1 0 ∷ []) writer) ≡ []
unfolding backs
E4_before_loop = refl

-- E4: a parent inside a loop is not that of a child after it (no text has such a link)
E4_parent_inside : backs (family (lo ∷ ku 0 0 0 1 ∷ en ∷ ks 1 1 2 ∷ li 0 1 0 ∷ []) writer)
    ≡ (0, 0, 3, 1) ∷ (1, 1, 3, 1) ∷ (2, 2, 3, 1) ∷ []
unfolding backs
E4_parent_inside = refl

-- E4: nor in the far program, where the loop turns not at all, once, twice (no text has such a link, nor one into the other arm)
E4_far_parent_inside : backs (family reader (lo ∷ ku 0 0 0 1 ∷ en ∷ ku 1 1 0 2 ∷ li 0 1 0 ∷ []))
    ≡ (0, 1, 1, 0) ∷ (0, 1, 2, 1) ∷ (0, 1, 3, 2) ∷ []
unfolding backs
E4_far_parent_inside = refl

E4_far_other_arm : backs (family reader (br ∷ ku 0 1 0 2 ∷ el ∷ ku 1 0 0 1 ∷ en ∷ li 0 0 1 ∷ [])) ≡ (0, 1, 1, 0) ∷ []
unfolding backs
E4_far_other_arm = refl

-- E4: paths are compared by their blocks, not by their turns alone: two loops in a row, each turned once (no text has such a link)
E4_near_other_loop : is_back_edge (family (lo ∷ ku 0 0 0 1 ∷ en ∷ lo ∷ ks 1 1 2 ∷ en ∷ li 0 1 0 ∷ []) writer) 4 1 9 1 ≡ true
unfolding is_back_edge
E4_near_other_loop = refl

E4_far_other_loop : is_back_edge (family reader (lo ∷ ku 0 0 0 1 ∷ en ∷ lo ∷ ku 1 1 0 2 ∷ en ∷ li 0 1 0 ∷ [])) 0 1 5 1 ≡ true
unfolding is_back_edge
E4_far_other_loop = refl

-- Req 02: a far parent after its child in the same arm, and after the branch
E4_far_same_arm : backs (family reader (br ∷ ku 0 1 0 2 ∷ ku 1 0 0 1 ∷ el ∷ en ∷ li 0 0 1 ∷ [])) ≡ []
unfolding backs
E4_far_same_arm = refl

E4_far_after_branch : backs (family reader (br ∷ ku 0 1 0 2 ∷ el ∷ ku 1 1 0 2 ∷ en ∷ ku 2 0 0 1 ∷ li 0 0 2 ∷ [])) ≡ (0, 1, 2, 0) ∷ []
unfolding backs
E4_far_after_branch = refl

-- E4: a parent in an outer loop's turn, before the inner loop; node 12 turns each loop twice
E4_outer_turn : let lines = family (lo ∷ ku 0 0 0 1 ∷ lo ∷ ks 1 1 2 ∷ en ∷ en ∷ li 0 1 0 ∷ []) writer in
    map (λ i. is_back_edge lines 12 i 13 1) (1 ∷ 2 ∷ 4 ∷ 5 ∷ []) ≡ false ∷ false ∷ false ∷ false ∷ []
unfolding is_back_edge
E4_outer_turn = refl

-- E4: the parent of the outer turn before is not the child's
E4_outer_turn_before : let lines = family (lo ∷ lo ∷ ks 0 1 2 ∷ en ∷ ku 1 0 0 1 ∷ en ∷ li 0 0 1 ∷ []) writer in
    map (λ i. is_back_edge lines 12 i 13 1) (0 ∷ 1 ∷ 3 ∷ 4 ∷ []) ≡ true ∷ true ∷ true ∷ true ∷ []
unfolding is_back_edge
E4_outer_turn_before = refl

-- E4: both in the inner of two loops: the parent of the inner turn before (node 3 turns the outer loop once and the inner twice)
-- and of the outer turn before (node 8 turns the outer loop twice and the inner once each time) is not the child's
E4_inner_turns : let lines = family (lo ∷ lo ∷ ks 0 1 2 ∷ ku 1 0 0 1 ∷ en ∷ en ∷ li 0 0 1 ∷ []) writer in
    (is_back_edge lines 3 2 13 1 ≡ true) × (is_back_edge lines 8 2 13 1 ≡ true)
unfolding is_back_edge
E4_inner_turns = (refl, refl)

E4_inner_same_turn : let lines = family (lo ∷ lo ∷ ku 0 0 0 1 ∷ ks 1 1 2 ∷ en ∷ en ∷ li 0 1 0 ∷ []) writer in
    (is_back_edge lines 3 3 13 1 ≡ false) × (is_back_edge lines 8 3 13 1 ≡ false)
unfolding is_back_edge
E4_inner_same_turn = (refl, refl)

-- E4: the child in an arm, its parent after the branch, in each turn; node 5 takes the empty arm first
E4_arm_turn_before : backs (family (lo ∷ br ∷ ks 0 1 2 ∷ el ∷ en ∷ ku 1 0 0 1 ∷ en ∷ li 0 0 1 ∷ []) writer)
    ≡ (1, 0, 7, 1) ∷ (3, 0, 7, 1) ∷ (3, 2, 7, 1) ∷ (4, 0, 7, 1) ∷ (5, 1, 7, 1) ∷ []
unfolding backs
E4_arm_turn_before = refl

-- E4: a parent before the branch, and one in the same arm
E4_arms : backs (family (ku 0 0 0 1 ∷ br ∷ ks 1 1 2 ∷ el ∷ ku 2 0 0 1 ∷ ks 3 1 2 ∷ en ∷ li 0 1 0 ∷ li 0 3 2 ∷ []) writer) ≡ []
unfolding backs
E4_arms = refl
