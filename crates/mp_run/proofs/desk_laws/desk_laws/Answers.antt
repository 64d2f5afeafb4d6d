use Rattle.mp_run.proofs.desk_laws.desk_laws.Goals as goal

pub returns : goal.returns
returns c = record {
  call_is = c.a_call_is_the_plain_call.ensures;
  calls_are = c.calls_are_the_plain_calls.ensures;
  stopped_are = c.stopped_calls_are_the_plain_stop.ensures;
  spent_settled = c.a_spent_lane_is_settled.ensures;
  keep_requests = c.calls_keep_the_requests.ensures;
  has_flights = c.a_desk_has_the_lanes_flights.ensures;
  may_finish = c.finishes_may_be_made.ensures;
  may_submit = c.submits_may_be_made.ensures;
  may_submit_new = c.a_new_request_may_be_submitted.ensures;
  list_taken = c.a_list_is_taken.ensures;
  list_given = c.a_list_is_given.ensures;
  others_sit = c.the_other_lanes_still_sit.ensures;
  keeper_still = c.a_keeper_looks_at_no_request.ensures;
  stated = c.stated_state_is_in_range.ensures;
}
