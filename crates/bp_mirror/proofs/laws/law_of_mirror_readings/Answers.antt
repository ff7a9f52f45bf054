use Rattle.bp_mirror.proofs.Symmetric.{orders_told, coordinates_told}
use Rattle.bp_mirror.proofs.laws.law_of_mirror_readings.Goals as goal

pub returns-clause-orders : goal.returns-clause-orders
returns-clause-orders c = λ kind mirror q s P bound heads axis i j finer m. orders_told c.args.metric.now.tree c.leaves-leaves.ensures.metric.tree kind mirror q s finer P m bound heads axis i j

pub returns-clause-coordinates : goal.returns-clause-coordinates
returns-clause-coordinates c = λ kind mirror q s P bound heads axis i finer m. coordinates_told c.args.metric.now.tree c.leaves-leaves.ensures.metric.tree kind mirror q s finer P m bound heads axis i
