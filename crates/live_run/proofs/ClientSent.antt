-- A task may go to another thread where its pass may.
use denote.RattleType.{RattleType}
use denote.Param.Send.{IsSend}
use denote.Param.SendFields.{FieldsHave, declared_send}
use Rattle.std.specs.declared.sync.ledger.Ledger.{Ghosts as LedgerGhosts}
use Rattle.live_sheet.specs.declared.naming.Naming.{Ghosts}
use Rattle.live_run.specs.contracts.client.Client as client

module _ (N : RattleType) (n : Ghosts N.Denot) (l : LedgerGhosts N.Denot) where
  pub client_send : FieldsHave IsSend (client.the_type N n l).parts → IsSend (client.the_row N n l)
  client_send all = declared_send (client.the_type N n l) all
