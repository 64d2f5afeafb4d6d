-- The form that the program holds.
use Rattle.mp_run.specs.declared.forms.Names.{Names as HeldNames}
use Rattle.mp_run.specs.declared.forms.Form.{Form as HeldForm}
use Rattle.mp_run.specs.declared.forms.Form.TheVariants as held
use Rattle.mp_run.specs.Forms.{Names, Form, serial, pages, help, version}

-- the names that the program holds, as bytes
abbrev pub names_of : HeldNames → Names
names_of n = record { topology = n.topology.now; boxes = n.boxes.now; script = n.script.now }

-- a form, by the bytes of its words
abbrev pub told_form : HeldForm → Form
told_form (held.Serial n) = serial (names_of n)
told_form (held.Pages p max) = pages p.now max
told_form held.Help = help
told_form held.Version = version
