-- What a status asks for.
use Rattle.std.specs.Prelude.{ℕ, ◌/◌, ◌%◌, Bool, true, false, ◌||◌, ◌==◌, nat_le, if◌then◌else◌}
use Rattle.mp_status.specs.declared.class.Class.{Class}
use Rattle.mp_status.specs.declared.class.Class.TheVariants.{Complete, Failover, Retry}
use Rattle.mp_status.specs.Statuses.{success, path_related, persistent_loss, inaccessible, transition, most_retries}

-- The do-not-retry bit, bit 14, is set.
abbrev pub must_not_retry : ℕ → Bool
must_not_retry status = status / 16384 % 2 == 1

-- The status code type, in bits 10 to 8, is that of a path's statuses.
abbrev pub is_path_related : ℕ → Bool
is_path_related status = status / 256 % 8 == path_related

-- Type and code, in bits 10 to 0, are one of the three by which a path tells its ANA state: 301h, 302h or 303h.
abbrev pub is_ana : ℕ → Bool
is_ana status = (status % 2048 == persistent_loss) || (status % 2048 == inaccessible) || (status % 2048 == transition)

-- What a status asks for after so many retries: success, the do-not-retry bit and five retries complete, in this order,
-- then a path's status fails over, and any other is retried.
abbrev pub disposition_of : ℕ → ℕ → Class
disposition_of status retries =
    if (status == success) || must_not_retry status || nat_le most_retries retries then Complete
    else (if is_path_related status then Failover (is_ana status) else Retry)

-- Another attempt follows on the same path.
abbrev pub is_retry : Class → Bool
is_retry Complete = false
is_retry (Failover ana) = false
is_retry Retry = true
