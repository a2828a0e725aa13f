use Rattle.meaning.proofs.Order.{order-stands}
use Rattle.meaning.proofs.order_stands.Goals as goal

pub returns : goal.returns
returns c = order-stands
