use Rattle.mp_rule.proofs.Parts as part
use Rattle.mp_rule.proofs.in_words.the_rule_has_these_parts.Goals as goal

pub returns-clause-sides_count : goal.returns-clause-sides_count
returns-clause-sides_count c = part.sides_count

pub returns-clause-rows_recorded : goal.returns-clause-rows_recorded
returns-clause-rows_recorded c = part.rows_recorded

pub returns-clause-order_kept : goal.returns-clause-order_kept
returns-clause-order_kept c = part.order_kept

pub returns-clause-depths_count : goal.returns-clause-depths_count
returns-clause-depths_count c = part.depths_count

pub returns-clause-scanned_is_empty : goal.returns-clause-scanned_is_empty
returns-clause-scanned_is_empty c = part.scanned_is_empty

pub returns-clause-mark_is_seen : goal.returns-clause-mark_is_seen
returns-clause-mark_is_seen c = part.mark_is_seen

pub returns-clause-unlisting_is_seen : goal.returns-clause-unlisting_is_seen
returns-clause-unlisting_is_seen c = part.unlisting_is_seen

pub returns-clause-reuse_is_safe : goal.returns-clause-reuse_is_safe
returns-clause-reuse_is_safe c = part.reuse_is_safe
