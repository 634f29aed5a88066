-- The parts that are lent are the rows of the table (rows-part, leads-part); the rest is the search over them.
use Rattle.walk_first.specs.TakingLaws.{rows_fit, rows_part, leads_fit, leads_part}
use Rattle.walk_first.proofs.search.Goals as goal

pub slice_bounds-search_rows-end : goal.slice_bounds-search_rows-end
slice_bounds-search_rows-end c = rows_fit _ c.rows_in-n.ensures.1 c.joined_rows-rows.ensures

pub slice_bounds-search_rows-end-2 : goal.slice_bounds-search_rows-end-2
slice_bounds-search_rows-end-2 c = leads_fit _ _ c.rows_in-n.ensures.1 c.lead_rows-leads.ensures

pub search_rows-requires : goal.search_rows-requires
search_rows-requires c =
    (c.requires, rows_part _ c.rows_in-n.ensures.0 c.joined_rows-rows.ensures, leads_part _ _ c.rows_in-n.ensures.0 c.lead_rows-leads.ensures)
