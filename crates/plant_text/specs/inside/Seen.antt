-- The lists that the code keeps of a plant text, as the walk speaks of them.
use Rattle.serde_json.specs.View.{items_view}
use Rattle.plant_text.specs.declared.sections.SectionLists.{SectionLists}
use Rattle.plant_text.specs.Walk.{Sections}

-- the sections as the walk finds them
abbrev pub lists_seen : SectionLists → Sections
lists_seen lists = record {
  format = lists.format;
  horizon = lists.horizon;
  properties = items_view lists.properties.now;
  crudes = items_view lists.crudes.now;
  vessels = items_view lists.vessels.now;
  storage = items_view lists.storage.now;
  charging = items_view lists.charging.now;
  units = items_view lists.units.now;
  operations = items_view lists.operations.now;
}
