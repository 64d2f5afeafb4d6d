-- The inputs of a run, with scripted statuses and without.
use Rattle.std.specs.Prelude.{[], map}
use Rattle.mp_page.specs.Page.{page_in}
use Rattle.mp_script.specs.declared.script.World.{World}
use Rattle.mp_script.specs.declared.script.Script.{Script}
use Rattle.mp_legal.specs.PlainCall.{Inputs, inputs_by}

-- the topology, and the page of each box under its bound or why it has none; no scripted statuses
abbrev pub inputs_of : World → Inputs
inputs_of world = record { topology = world.topology; pages = map (page_in world.topology.anagrpmax) world.pages; answers = [] }

-- the topology, the page of each box under its bound or why it has none, and the scripted statuses
abbrev pub inputs_for : World → Script → Inputs
inputs_for world script = inputs_by page_in world script
