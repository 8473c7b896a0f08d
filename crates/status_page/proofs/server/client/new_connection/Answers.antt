use Rattle.std.proofs.Common.{rules}
use Rattle.status_page.proofs.server.client.new_connection.Goals as goal

pub returns-clause-limits : goal.returns-clause-limits
returns-clause-limits c = search rules
