-- Small workloads that pin the rules of edges (E): those that the edits need. The others stand in graph_cases.
use Rattle.std.specs.Prelude.{true, false, ◌&&◌, List, [], ◌∷◌, ◌++◌, map, ◌≡◌, refl, eqb}
use Rattle.spec_base.specs.Basic.{keep}
use Rattle.spec_text.specs.declared.Line.{Line}
use Rattle.spec_text.specs.declared.StatementKind.{StatementKind}
use Rattle.spec_text.specs.declared.StatementKind.TheVariants.{Is, Ks, Ps, Ku, Pu, Kd, Pd, Kl}
use Rattle.spec_graph.specs.Graph.{Flow}
use Rattle.spec_graph.specs.Unfolding.{nodes_of}
use Rattle.spec_graph.specs.Edge.{Letter, Edge, holds, forward, back, at, place_at, both_pass}
use Rattle.spec_graph.specs.Edge.{has_reads, has_writes, has_tests, inserts, deletes, selects, shields, loosens}
use Rattle.spec_graph.specs.Edge.Letter.{A, B, C, D, E}
use Rattle.spec_graph.specs.ExampleText.{rl, fk, pr, is, ks, ps, ku, pu, kd, pd, kl, lo, en, li, edge}
use Rattle.spec_graph.specs.ExampleText.{edges, backs, graph, is_back_edge, twice}

-- T5, E3, W4, Req 03: which of the kinds have reads, writes, tests; insert, delete, select; shield as parents; loosen a pair
unfoldable pub kinds : List StatementKind
kinds = Is ∷ Ks ∷ Ps ∷ Ku ∷ Pu ∷ Kd ∷ Pd ∷ Kl ∷ []

E_kinds : map (λ test. keep test kinds) (has_reads ∷ has_writes ∷ has_tests ∷ inserts ∷ deletes ∷ selects ∷ shields ∷ loosens ∷ [])
    ≡ (Ks ∷ Ps ∷ Ku ∷ Pu ∷ Kl ∷ [])
    ∷ (Is ∷ Ku ∷ Pu ∷ Kd ∷ Pd ∷ [])
    ∷ (Ps ∷ Pu ∷ Pd ∷ [])
    ∷ (Is ∷ [])
    ∷ (Kd ∷ Pd ∷ [])
    ∷ (Ks ∷ Ps ∷ [])
    ∷ (Is ∷ Ku ∷ Kd ∷ Kl ∷ [])
    ∷ (Ks ∷ Ps ∷ Pu ∷ Pd ∷ [])
    ∷ []
unfolding kinds
E_kinds = refl

-- ---- E0 to E2, E5, E6: letters, edges and their records

-- two programs of one statement each
abbrev two : Line → Line → List Line
two p q = rl 0 15 ∷ pr 0 ∷ p ∷ pr 1 ∷ q ∷ []

-- the letters that hold from the first statement to the second
unfoldable pub letters : Line → Line → List Letter
unfolding graph
letters p q =
    let nodes = nodes_of (two p q) in
    keep (λ x. both_pass (λ s t. holds x (at s) (at t)) (place_at nodes 0 0) (place_at nodes 1 0)) (A ∷ B ∷ C ∷ D ∷ E ∷ [])

-- the records of the edges from the first statement to the second
unfoldable pub between : Line → Line → List Edge
unfolding edges
between p q = keep (λ e. eqb e.node 0 && eqb e.into 1) (edges (two p q))

-- EA: not from a delete
EA_from_delete : (letters (kd 0 0 15) (ku 0 0 0 2) ≡ []) × (letters (pd 0 0 15 0) (ku 0 0 0 2) ≡ [])
unfolding letters
EA_from_delete = (refl, refl)

-- EB alone: the first writes what the second reads; not from a delete
EB_from_delete : (letters (kd 0 0 15) (ks 0 0 1) ≡ []) × (letters (pd 0 0 15 0) (ks 0 0 1) ≡ [])
unfolding letters
EB_from_delete = (refl, refl)

-- EC: inserts and deletes, whatever is tested
EC_insert : letters (is 0 0 15) (ps 0 0 0 0) ≡ C ∷ []
unfolding letters
EC_insert = refl

-- ED alone: the first reads what the second writes or deletes, but not what it inserts
ED_into_insert : letters (ks 0 0 2) (is 0 0 15) ≡ []
unfolding letters
ED_into_insert = refl

-- EE: inserts and deletes, whatever is tested
EE_insert : letters (ps 0 0 0 0) (is 0 0 15) ≡ E ∷ []
unfolding letters
EE_insert = refl

-- E0: an edge may lead from a node to itself, and from a place to itself
E0_itself : edges (rl 0 3 ∷ pr 0 ∷ pu 0 0 3 1 3 ∷ ks 1 0 1 ∷ [])
    ≡ edge 0 0 0 0 Flow.forward A 1 0
    ∷ edge 0 0 0 0 Flow.back E 1 0
    ∷ edge 0 0 0 1 Flow.forward B 1 0
    ∷ edge 0 1 0 0 Flow.forward D 1 0
    ∷ edge 0 1 0 0 Flow.back D 1 0
    ∷ []
unfolding edges
E0_itself = refl

-- E5: by the node left, the place left, the node entered, the place entered, forward first
E5_order : edges twice
    ≡ edge 0 0 0 0 Flow.forward A 1 1
    ∷ edge 0 1 0 1 Flow.forward A 1 1
    ∷ edge 0 1 1 0 Flow.forward B 1 1
    ∷ edge 0 1 1 1 Flow.forward B 1 1
    ∷ edge 1 0 0 1 Flow.forward D 1 1
    ∷ edge 1 0 0 1 Flow.back E 1 1
    ∷ edge 1 1 0 1 Flow.forward D 1 1
    ∷ edge 1 1 0 1 Flow.back E 1 1
    ∷ []
unfolding edges
E5_order = refl

-- E6: the letter, how many attributes its two sets share, and the lowest of them
E6_E : between (ps 0 0 0 13) (ku 0 0 0 10) ≡ edge 0 0 1 0 Flow.forward E 1 3 ∷ edge 0 0 1 0 Flow.back E 1 3 ∷ []
unfolding between
E6_E = refl

-- ---- E3: the shield

-- two programs over a parent relation 0 and a child relation 1 with two keys between them
abbrev pub family : List Line → List Line → List Line
family near far = rl 0 3 ∷ rl 1 3 ∷ fk 0 1 0 ∷ fk 1 1 0 ∷ pr 0 ∷ near ++ (pr 1 ∷ far)

-- a program that reads a child after its parent, by the key 0, and one that writes such a child
abbrev pub reader : List Line
reader = ku 0 0 0 1 ∷ ks 1 1 2 ∷ li 0 1 0 ∷ []

abbrev pub writer : List Line
writer = ku 0 0 0 1 ∷ ku 1 1 0 2 ∷ li 0 1 0 ∷ []

-- E3: not where one side has no link
E3_far_unlinked : backs (family reader (ku 0 0 0 1 ∷ ku 1 1 0 2 ∷ [])) ≡ (0, 1, 1, 1) ∷ []
unfolding backs
E3_far_unlinked = refl

-- the writer that writes the child first and its parent last
abbrev pub late_writer : List Line
late_writer = ku 0 1 0 2 ∷ ku 1 0 0 1 ∷ li 0 0 1 ∷ []

-- E3: nor where the near parent comes after its child
E3_near_late : backs (family (ks 0 1 2 ∷ ku 1 0 0 1 ∷ li 0 0 1 ∷ []) writer) ≡ (0, 0, 1, 1) ∷ []
unfolding backs
E3_near_late = refl

-- Req 02: the far parent may come after its child
E3_far_late : backs (family reader late_writer) ≡ []
unfolding backs
E3_far_late = refl

-- E3: one key for both sides
E3_two_keys : backs (family reader (ku 0 0 0 1 ∷ ku 1 1 0 2 ∷ li 1 1 0 ∷ [])) ≡ (0, 1, 1, 1) ∷ []
unfolding backs
E3_two_keys = refl

-- E3: the near parent, too, is the key's: here key 1 has one that writes, and key 0, by which the far program is linked, one that only reads
E3_near_two_keys : backs (family (ku 0 0 0 1 ∷ ks 1 0 2 ∷ ks 2 1 2 ∷ li 1 2 0 ∷ li 0 2 1 ∷ []) writer) ≡ (0, 2, 1, 1) ∷ []
unfolding backs
E3_near_two_keys = refl

-- E3, Req 03: a parent of kind is, ku, kd or kl shields, on either side; for the kinds is ks ps ku pu kd pd kl in turn
-- (a text links no parent of kind ps, pu or pd)
abbrev pub parents : List Line
parents = is 0 0 3 ∷ ks 0 0 1 ∷ ps 0 0 1 1 ∷ ku 0 0 1 1 ∷ pu 0 0 1 1 1 ∷ kd 0 0 3 ∷ pd 0 0 3 1 ∷ kl 0 0 1 ∷ []

E3_far_kinds : map (λ parent. is_back_edge (family reader (parent ∷ ku 1 1 0 2 ∷ li 0 1 0 ∷ [])) 0 1 1 1) parents
    ≡ false ∷ true ∷ true ∷ false ∷ true ∷ false ∷ true ∷ false ∷ []
unfolding is_back_edge
E3_far_kinds = refl

-- E2: a link removes no back edge that E gives: phantoms have no link
E2_link_keeps_E : (backs (family (ku 0 0 0 1 ∷ ps 1 1 2 2 ∷ li 0 1 0 ∷ []) writer) ≡ (0, 1, 1, 1) ∷ [])
    × (backs (family (ku 0 0 0 1 ∷ ps 1 1 2 0 ∷ li 0 1 0 ∷ []) (ku 0 0 0 1 ∷ kd 1 1 3 ∷ li 0 1 0 ∷ [])) ≡ (0, 1, 1, 1) ∷ [])
unfolding backs
E2_link_keeps_E = (refl, refl)

-- ---- E4: links bind within the turn

-- E4: the parent of the turn before is not the child's; nodes 0 to 2 are the turns, node 3 the writer
E4_near_turn_before : backs (family (lo ∷ ks 0 1 2 ∷ ku 1 0 0 1 ∷ en ∷ li 0 0 1 ∷ []) writer)
    ≡ (1, 0, 3, 1) ∷ (2, 0, 3, 1) ∷ (2, 2, 3, 1) ∷ []
unfolding backs
E4_near_turn_before = refl
