-- The virtual joints of a file, one by one.
use Rattle.std.specs.Prelude.{ℕ, if◌then◌else◌, List, codes, bytes_eq, Option, Some, None, option_and_then, Result, Ok}
use Rattle.std.specs.Option.{ok_or}
use Rattle.rb_srdf.specs.declared.faults.SrdfFaultKind.{SrdfFaultKind}
use Rattle.rb_srdf.specs.declared.faults.SrdfFaultKind.TheVariants.{BadType}
use Rattle.rb_srdf.specs.declared.srdf.Virtual.{Virtual}
use Rattle.rb_srdf.specs.declared.read_virtuals.VirtualRef.{VirtualRef}
use Rattle.rb_tags.specs.declared.root.RootKind.{RootKind}
use Rattle.rb_tags.specs.declared.root.RootKind.TheVariants.{Fixed, Planar, Floating}
use Rattle.rb_tags.specs.Elements.{Element, attribute}
use Rattle.rb_result.specs.Steps.{◌>>=◌}
use Rattle.rb_srdf.specs.Names.{name_in, new_name}

-- the kind of a type's name
unfoldable pub kind_named : List ℕ → Option RootKind
kind_named text =
    if bytes_eq text (codes "fixed") then Some Fixed else
    if bytes_eq text (codes "floating") then Some Floating else
    if bytes_eq text (codes "planar") then Some Planar else None

unfoldable pub kind_of : Element → Result RootKind SrdfFaultKind
kind_of element = ok_or (option_and_then kind_named (attribute (codes "type") element)) BadType

-- the virtual joint of an element behind virtual joints of these names
unfoldable pub virtual_of : List (List ℕ) → Element → Result Virtual SrdfFaultKind
virtual_of names element =
    name_in (codes "name") element >>= λ name.
    name_in (codes "child_link") element >>= λ child.
    new_name names name >>= λ _.
    kind_of element >>= λ kind.
    Ok (record { name = name; place = element.tag.place; kind = kind; child = child })

-- what contracts see of a borrowed virtual joint
abbrev pub as_virtual : VirtualRef → Virtual
as_virtual virtual = record { name = virtual.name.now; place = virtual.place; kind = virtual.kind; child = virtual.child.now }
