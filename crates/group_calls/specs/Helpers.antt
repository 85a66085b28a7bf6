-- The seats of the threads that help groups' logs.
use Rattle.group_servers.specs.Helping.{IsSeatAt}
use Rattle.group_calls.specs.declared.groups.GroupHelper.{GroupHelper}
use Rattle.group_calls.specs.Servers.{Servers, server_at}

-- the helper's seat is of its group's server
abbrev pub IsHelperOf : Servers → GroupHelper → Type 0
IsHelperOf s helper = IsSeatAt (server_at s helper.group) helper.seat
