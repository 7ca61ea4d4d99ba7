-- The drill's shelf and its source, as the traits of the outside see them.
use Rattle.std.specs.Prelude.{[], ◌∷◌, Some}
use Rattle.std.specs.Rc.{rc_value}
use Rattle.edge_traits.specs.Shelf.{ShelfView}
use Rattle.edge_traits.specs.Source.{SourceView}
use Rattle.feed_maker.specs.declared.shelf.DrillShelf.{DrillShelf}
use Rattle.feed_maker.specs.declared.shelf.DrillSource.{DrillSource}
use Rattle.feed_maker.specs.Drill.{feed_name}

-- the feed under its name, and no fault
abbrev pub shelf_view : DrillShelf → ShelfView
shelf_view shelf = record { counts = (feed_name, 0) ∷ []; told = Some ((feed_name, rc_value shelf.feed) ∷ []) }

-- the same, fetched
abbrev pub source_view : DrillSource → SourceView
source_view source = record { name = Some feed_name; told = Some (rc_value source.feed); faults = 0 }
