use Rattle.std.proofs.Common.{◌≡◌, Err, rules, arith}
use Rattle.mp_run.proofs.Asking.{reads_refused, reads_all, two_read, three_read}
use Rattle.mp_run.proofs.texts.serial.Goals as goal

pub returns-in_err-boxes-clause-named : goal.returns-in_err-boxes-clause-named
returns-in_err-boxes-clause-named g c =
    let names = c.args.names.now in
    let old = g.F.Folder.asked c.args.folder.now in
    let status = c.in_err-boxes.field-0.0 in
    let is : c.from_residual-in_err-boxes.result ≡ Err status = search rules in
    let read = two_read names.topology.now names.boxes.now old c.read_file.ensures.asks c.read_file-2.ensures.asks in
    rw is (reads_refused _ 2 status _ _ c.in_err-boxes.ensures.refused (omega arith) (omega arith) read)

pub returns-in_err-script-clause-named : goal.returns-in_err-script-clause-named
returns-in_err-script-clause-named g c =
    let names = c.args.names.now in
    let old = g.F.Folder.asked c.args.folder.now in
    let status = c.in_err-script.field-0.0 in
    let is : c.from_residual-in_err-script.result ≡ Err status = search rules in
    let read = three_read names.topology.now names.boxes.now names.script.now old c.read_file.ensures.asks c.read_file-2.ensures.asks c.read_file-3.ensures.asks in
    rw is (reads_refused _ 3 status _ _ c.in_err-script.ensures.refused (omega arith) (omega arith) read)

pub returns-clause-named : goal.returns-clause-named
returns-clause-named g c =
    let names = c.args.names.now in
    let old = g.F.Folder.asked c.args.folder.now in
    let read = three_read names.topology.now names.boxes.now names.script.now old c.read_file.ensures.asks c.read_file-2.ensures.asks c.read_file-3.ensures.asks in
    reads_all _ c.text_of_files.result _ _ c.text_of_files.ensures.refused read
