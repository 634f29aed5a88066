-- The table of rows as the code makes it, word by word: steps towards the promise of specs/Rows.
use Rattle.std.specs.Prelude.{List, [], ◌∷◌, ◌++◌, ◌≡◌, ℕ, zero, suc, ◌+◌, ◌*◌, length, get_or, Result, Ok}
use Rattle.unfold_laws.specs.WordCode.{line_in, seen_in}
use Rattle.word_rows.specs.Put.{put_at}
use Rattle.place_links.specs.declared.Links.{Links}
use Rattle.place_programs.specs.LinePrograms.{begun_in}
use Rattle.place_links.specs.LineLinks.{links_in}
use Rattle.place_keys.specs.LineKeys.{place_keys}
use Rattle.unfold.specs.declared.Unfolding.{Unfolding}
use Rattle.unfold.specs.UnfoldTold.{no_unfolding}
use Rattle.refusal.specs.declared.Fault.{Fault}
use Rattle.place_table.specs.declared.Rows.{Rows}

-- ---- rows

-- the row of a place from its word, and from where its program's links begin and which statements are marked
unfoldable pub row_words : List ℕ → Links → ℕ → ℕ → ℕ → List ℕ
row_words lines links node place word =
    let at = line_in word * 8 in
    node
    ∷ place
    ∷ get_or lines at 0
    ∷ get_or lines (at + 2) 0
    ∷ get_or lines (at + 4) 0
    ∷ get_or lines (at + 5) 0
    ∷ get_or lines (at + 6) 0
    ∷ place_keys lines links.first (get_or lines (at + 1) 0) (seen_in word) links.marks ∷ []

-- the rows of the first places of a node, whose words stand from `start` on
unfoldable pub node_rows : List ℕ → Links → ℕ → List ℕ → ℕ → ℕ → List ℕ
node_rows lines links node words start zero = []
node_rows lines links node words start (suc i) =
    node_rows lines links node words start i ++ row_words lines links node i (get_or words (start + i) 0)

-- the unfolding of a node
abbrev pub unfolding_at : List Unfolding → ℕ → Unfolding
unfolding_at unfoldings j = get_or unfoldings j no_unfolding

-- the places of the first nodes
unfoldable pub total_of : List Unfolding → ℕ → ℕ
total_of unfoldings zero = 0
total_of unfoldings (suc j) = total_of unfoldings j + (unfolding_at unfoldings j).length

-- the rows of the first nodes
unfoldable pub all_rows : List ℕ → List ℕ → List Unfolding → List ℕ → ℕ → List ℕ
all_rows lines firsts unfoldings words zero = []
all_rows lines firsts unfoldings words (suc j) =
    let own = unfolding_at unfoldings j in
    all_rows lines firsts unfoldings words j
    ++ node_rows lines (links_in lines (get_or firsts own.program 0)) j words (total_of unfoldings j) own.length

-- ---- all of it

unfoldable pub rows_told : List ℕ → List Unfolding → Rows
rows_told lines unfoldings =
    record { programs = (begun_in lines).programs; nodes = length unfoldings; places = total_of unfoldings (length unfoldings) }

pub record FilledBy (lines : List ℕ) (unfoldings : List Unfolding) (words before : List ℕ) (r : Result Rows Fault) (after : List ℕ) : Type 0 where
  pub tells : r ≡ Ok (rows_told lines unfoldings)
  pub stands : after ≡ put_at before 0 (all_rows lines (begun_in lines).firsts unfoldings words (length unfoldings))
