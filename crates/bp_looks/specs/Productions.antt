-- What is told of the kept productions.
use Rattle.std.specs.Prelude.{List, length, map}
use Rattle.bp_matter.specs.Matter.{Matter}
use Rattle.bp_matter.specs.declared.rows.Production.{Production}
use Rattle.bp_matter.specs.declared.rows.ProductionRow.{ProductionRow}
use Rattle.bp_matter.specs.declared.looks.ProductionView.{ProductionView}

-- a production: the words of its request, its span and the number of its items
abbrev pub production_view : Production → ProductionView
production_view f = record {
  id = f.request.id;
  volume = f.request.volume;
  prefix = f.request.prefix.text;
  width = f.request.prefix.width;
  span = f.span;
  items = length f.items;
  from = f.request.from;
  to = f.request.to;
}

-- a kept production
abbrev pub kept_view : ProductionRow → ProductionView
kept_view row = production_view row.production

-- each kept production, in order
abbrev pub productions_of : Matter → List ProductionView
productions_of m = map kept_view m.productions
