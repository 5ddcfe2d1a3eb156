-- A line whose name stands in the text.
use Rattle.plan_text.specs.declared.op_line.OpLine.{OpLine}
use Rattle.plan_text.specs.declared.op_line.Fields.{Fields}

-- the line with these words
abbrev pub fields_line : Fields → OpLine
fields_line fields =
    record {
      number = fields.number;
      name = fields.name.now;
      start = fields.start;
      end = fields.end;
      volume = fields.volume;
    }
