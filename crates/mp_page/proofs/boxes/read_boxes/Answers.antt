use Rattle.mp_page.proofs.BoxLaws.{gives, few, within}
use Rattle.mp_page.proofs.boxes.read_boxes.Goals as goal

pub returns-clause-gives : goal.returns-clause-gives
returns-clause-gives c = gives c.args.bytes.now c.boxes_at.result c.boxes_at.ensures

pub returns-clause-few : goal.returns-clause-few
returns-clause-few c = few 1024 c.args.bytes.now c.boxes_at.result c.boxes_at.ensures

pub returns-clause-pages : goal.returns-clause-pages
returns-clause-pages c = within 1024 c.args.bytes.now c.boxes_at.result c.boxes_at.ensures
