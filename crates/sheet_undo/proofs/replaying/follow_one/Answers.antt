use Rattle.std.proofs.Common.{◌≡◌, [], ◌∷◌, None, Some, ap, arith, slice_set, subst, sym, ◌∙◌}
use Rattle.std.specs.BTreeMap.{get}
use Rattle.std.specs.Ordering.{nat_cmp}
use Rattle.std.proofs.lemmas.List.{length-map}
use Rattle.std.proofs.lemmas.Option.{slice_get_within}
use Rattle.sheet_refs.specs.Cells.{Position}
use Rattle.sheet_refs.specs.Sizes.{place_of}
use Rattle.sheet_model.specs.Changes.{ChangeValue}
use Rattle.sheet_undo.specs.Found.{Follows}
use Rattle.sheet_undo.specs.Undoing.{changed_cells}
use Rattle.sheet_undo.proofs.FindLemmas.{found_at}
use Rattle.sheet_undo.proofs.FollowLemmas.{follows_found, follows_missed}
use Rattle.sheet_undo.proofs.replaying.follow_one.Goals as goal

pub returns-in_default : goal.returns-in_default
returns-in_default c =
    let cell : c.change.inside.cell ≡ c.args.change.now.cell = ap (λ (x : ChangeValue). x.cell) c.change.view_is in
    follows_missed c.args.cells.now.sizes c.args.held.now.items (get nat_cmp c.args.cells.now.places) c.requires.cells c.args.change.now
    (subst (λ (p : Position). get nat_cmp c.args.cells.now.places (place_of c.args.cells.now.sizes p) ≡ None) cell (sym c.find.ensures ∙ c.in_default.is))

pub index_mut-requires : goal.index_mut-requires
index_mut-requires c =
    let cell : c.change.inside.cell ≡ c.args.change.now.cell = ap (λ (x : ChangeValue). x.cell) c.change.view_is in
    let look = get nat_cmp c.args.cells.now.places in
    let stands = found_at c.args.cells.now.sizes
    (changed_cells c.args.held.now.items) look c.requires.cells c.in-Some.place c.args.change.now.cell c.requires.inside
    (subst (λ (p : Position). look (place_of c.args.cells.now.sizes p) ≡ Some c.in-Some.place) cell (sym c.find.ensures ∙ c.in-Some.is)) in
    let within = slice_get_within (changed_cells c.args.held.now.items) c.in-Some.place c.args.change.now.cell stands in
    let count = length-map c.args.held.now.items (λ (x : ChangeValue). x.cell) in
    omega (arith, within, count, c.args.held.now.ok)

pub returns : goal.returns
returns c =
    let cell : c.change.inside.cell ≡ c.args.change.now.cell = ap (λ (x : ChangeValue). x.cell) c.change.view_is in
    let look = get nat_cmp c.args.cells.now.places in
    let stands = found_at c.args.cells.now.sizes
    (changed_cells c.args.held.now.items) look c.requires.cells c.in-Some.place c.args.change.now.cell c.requires.inside
    (subst (λ (p : Position). look (place_of c.args.cells.now.sizes p) ≡ Some c.in-Some.place) cell (sym c.find.ensures ∙ c.in-Some.is)) in
    subst (λ (x : ChangeValue). Follows c.args.cells.now.sizes (c.args.change.now ∷ []) c.args.held.now.items
    (slice_set c.args.held.now.items c.in-Some.place x)) (sym c.in_ok-copy.ensures)
    (follows_found c.args.cells.now.sizes c.args.held.now.items look c.requires.cells c.args.change.now c.in-Some.place c.requires.inside stands)
