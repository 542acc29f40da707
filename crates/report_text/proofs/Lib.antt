mod HostSums
