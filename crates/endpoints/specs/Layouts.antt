-- The layout of a record, by its version.
use Rattle.endpoints.specs.Names.{RecordVersion, First, Second}
use Rattle.insn.specs.declared.layout.Layout.{Layout}
use Rattle.insn.specs.declared.layout.Layout.TheVariants.{V1, V2}

abbrev pub layout_of : RecordVersion → Layout
layout_of First = V1
layout_of Second = V2

-- the version of the layout
abbrev pub version_of : Layout → RecordVersion
version_of V1 = First
version_of V2 = Second
